-- Lines added to a text one after another.
use Rattle.std.proofs.Common.{◌≡◌, ℕ, ◌+◌, ◌<◌, List, [], ◌++◌, length, get_or, take, sym, ap, ◌∙◌}
use Rattle.std.proofs.lemmas.List.{flat_map_more, take_more}
use Rattle.console.specs.Sheets.{ended, lines_text}

module _ {T : Type 0} (show : T → List ℕ) where
  -- one more line
  pub line_added : (lines : List T) (i : ℕ) (x : T) → i < length lines → x ≡ get_or lines i x
      → lines_text show (take i lines) ++ ended (show x) ≡ lines_text show (take (i + 1) lines)
  line_added lines i x h at =
      ap (λ (z : T). lines_text show (take i lines) ++ ended (show z)) at
      ∙ flat_map_more (λ x. ended (show x)) [] (take i lines) (get_or lines i x)
      ∙ ap (lines_text show) (sym (take_more lines i x h))
