-- What `find_map` finds over the numbers below a bound.
use Rattle.std.proofs.Common.{◌≡◌, ℕ, ◌+◌, ◌<◌, Some, None, Option, IsTrue, IfSome, IsSomeAnd, MatchOption, option_map, ap, ◌∙◌, subst, arith}
use Rattle.std.proofs.iter.Yields.{nat_range_steps}
use Rattle.std.proofs.iter.runs.Sources.{range_runs}
use Rattle.std.specs.Fn.{Called, Mut}
use Rattle.std.specs.Iterator.Runs.{SomeRun, CallKeepsClosure, AllItemsGive, IsFirstToGive}
use Rattle.std.specs.declared.ops.Range.{Range}

read_item : (P : ℕ → Type 0) (o : Option ℕ) (k : ℕ) → option_map (λ y. y) o ≡ Some k → IfSome o P → P k
read_item P None k e h = absurd (cc)
read_item P (Some x) k e h = let same : x ≡ k = cc in subst P same h

some_item : (P : ℕ → Type 0) (o : Option ℕ) → IsSomeAnd o P → (k : ℕ) × P k
some_item P None h = absurd h
some_item P (Some x) h = (x, h)

-- the closure, which each call leaves as it is, gave nothing at any number below n; or it gave something at one
module _ {F B : Type 0} {g : Mut F (ℕ × Unit {0}) (Option B)} (f : F) (n : ℕ) (s : Range ℕ) (from : s ≡ record { start = 0; end = n })
    (Gives : ℕ → Option B → Type 0) (stays : CallKeepsClosure g f) (says : (x : ℕ) (a : Option B) (q : F) → Called g f (x, tt) a q → Gives x a) where
  pub found_below : (r : Option B)
      → SomeRun nat_range_steps s (λ p. MatchOption r (IsTrue p.whole × AllItemsGive p g f None) (λ y. (i : ℕ) × (i < p.len) × (p.len ≡ i + 1) × IsFirstToGive p g f (Some y) None i))
      → MatchOption r ((k : ℕ) → k < n → Gives k None) (λ y. (k : ℕ) × Gives k (Some y))
  found_below None d = λ k l.
      let up = range_runs d.0 d.0.seen in
      let below : d.0.len ≡ n = omega (arith, up.1 d.2.0, ap (λ (x : Range ℕ). x.start) (d.1 ∙ from), ap (λ (x : Range ℕ). x.end) (d.1 ∙ from)) in
      let at : d.0.from.start + k ≡ k = omega (arith, ap (λ (x : Range ℕ). x.start) (d.1 ∙ from)) in
      says k None f (read_item (λ x. Called g f (x, tt) None f) (d.0.at k) k (up.3 k (omega arith) ∙ ap Some at) (d.2.1 stays k))
  found_below (Some y) d =
      let found = some_item (λ x. Called g f (x, tt) (Some y) f) (d.0.at d.2.0) (d.2.3 stays).0 in
      (found.0, says found.0 (Some y) f found.1)
