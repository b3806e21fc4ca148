-- `orders::kinds_of` meets its contract. Assumes nothing.
use Rattle.std.proofs.Common.{◌≡◌, ◌∙◌, ℕ, List, [], ◌++◌, map, length, drop, arith}
use mathlib.Core.List.{append-nil}
use lib.Seq.{drop-length}
use Rattle.orders.specs.declared.Kind.{Kind}
use Rattle.orders.specs.Kinds.{digit_of, kinds_in}
use Rattle.orders.proofs.Digits.{kinds_none, six_digits}
use Rattle.orders.proofs.Turns.{digits_left, less_left, kinds_next}
use Rattle.orders.proofs.kinds_of.Goals as goal

-- nothing is set yet
none-set : (kinds : List Kind) (o : List ℕ) → length kinds ≡ 6 → o ++ map digit_of (drop 6 kinds) ≡ o
none-set kinds o e = let none : drop 6 kinds ≡ [] = rw (← e) (drop-length kinds) in rw none (append-nil o)

pub loop-rest-init : goal.loop-rest-init
loop-rest-init c =
    (none-set c.args.kinds.now (kinds_in 6 c.args.number) c.requires.1, omega arith, six_digits c.args.number c.requires.0)

pub overflow_sub-from : goal.overflow_sub-from
overflow_sub-from c = digits_left c.loop-rest.from c.loop-rest.rest c.loop-rest-test.true c.loop-rest.invariant.2

pub loop-rest-smaller : goal.loop-rest-smaller
loop-rest-smaller c = omega (arith, digits_left c.loop-rest.from c.loop-rest.rest c.loop-rest-test.true c.loop-rest.invariant.2)

pub loop-rest-preserved : goal.loop-rest-preserved
loop-rest-preserved c =
    let l = c.loop-rest in
    let t = c.loop-rest-test.true in (
      kinds_next l.kinds l.from l.rest _ c.of.ensures t (digits_left l.from l.rest t l.invariant.2) (omega arith) ∙ l.invariant.0,
      omega arith,
      less_left l.from l.rest t l.invariant.2,
    )

pub returns : goal.returns
returns c =
    let l = c.loop-rest in
    let e : l.rest ≡ 0 = omega arith in
    (rw (e, kinds_none l.from) at l.invariant.0, l.invariant.1)
