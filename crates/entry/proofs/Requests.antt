-- The acts of the requests from one index on.
use Rattle.std.proofs.Common.{◌≡◌, ℕ, suc, ◌+◌, ◌<◌, ◌≤◌, List, [], ◌∷◌, length, get_or, drop, Some, None, Option, sym, ap, ◌∙◌, arith}
use Rattle.std.proofs.lemmas.List.{drop_more}
use Rattle.trace.specs.declared.act.Act.{Act}
use Rattle.entry.specs.declared.request.Request.{Request}
use Rattle.entry.specs.Requests.{act_of, begun, known}

abbrev pub blank : Request
blank = record { kind = 0; job = 0; item = 0; value = 0 }

within_begun : (o : Option Act) (H : List Act) (n : ℕ) → length H ≤ n → length (begun o H) ≤ suc n
within_begun None H n h = omega arith
within_begun (Some a) H n h = omega (arith, h)

-- no request has more than one act
pub known_within : (qs : List Request) → length (known qs) ≤ length qs
known_within [] = omega arith
known_within (q ∷ qs) = within_begun (act_of q) (known qs) (length qs) (known_within qs)

module _ (qs : List Request) (i : ℕ) where
  known_at : (o : Option Act) → i < length qs → o ≡ act_of (get_or qs i blank) → known (drop i qs) ≡ begun o (known (drop (i + 1) qs))
  known_at o h e =
      ap known (drop_more qs i blank h) ∙ ap (λ (z : Option Act). begun z (known (drop (i + 1) qs))) (sym e)

  -- an act and those behind it
  pub known_more : (a : Act) → i < length qs → Some a ≡ act_of (get_or qs i blank) → known (drop i qs) ≡ a ∷ known (drop (i + 1) qs)
  known_more a h e = known_at (Some a) h e
