-- The blocks of a check's symbols as letters, and the symbols that its terms name.
use Rattle.std.proofs.Common.{◌≡◌, ℕ, ◌+◌, ◌<◌, ◌≤◌, List, length, get_or, inl, inr, sym, ap, ◌∙◌, subst, arith}
use Rattle.std.specs.Prelude.{Contains}
use Rattle.std.proofs.lemmas.List.FromFn.{get_or-range_with_len}
use Rattle.rela_rir.specs.declared.term.PathTerm.{PathTerm}
use Rattle.rela_rir.specs.declared.term.RelTerm.{RelTerm}
use Rattle.rela_translate.specs.Checked.{Checked, IsCheck, markers_of}
use Rattle.rela_translate.specs.Terms.{zone_of, before_of, after_of}
use Rattle.rela_translate.specs.Zones.{path_symbols, marker_symbol, drop_symbol}
use Rattle.rela_build.specs.Lettering.{AreListedAlike, AreLetterBlocks, IsAlone}
use Rattle.rela_build.specs.Named.{Names, NamesR}
use Rattle.rela_blocks.specs.Alone.{AreOthersAlone}
use Rattle.rela_blocks.specs.Blocks.{AreOne, AreBlocks}
use Rattle.rela_blocks.specs.Scenes.{lettering_of}

module _ (check : Checked) (n : ℕ) (blocks : List ℕ) (are : AreBlocks check n blocks) where
  path_one : (s t : ℕ) → AreOne check.classes n s t → s < path_symbols n → t < path_symbols n
  path_one s t (inl same) path = omega (arith, same, path)
  path_one s t (inr alike) path = omega (arith, alike.second)

  listed_one : (s t : ℕ) → AreOne check.classes n s t → AreListedAlike check.classes s t
  listed_one s t (inl same) = subst (λ (x : ℕ). AreListedAlike check.classes s x) same (λ k d within. (λ has. has, λ has. has))
  listed_one s t (inr alike) = alike.listed

  -- the blocks are letters of the check's terms
  pub letter_blocks : AreLetterBlocks (lettering_of check n blocks)
  letter_blocks = record {
    symbols = are.symbols;
    partition = are.partition;
    of_path = λ s t s_in t_in one. path_one s t ((are.together s t s_in t_in).0 one);
    of_classes = λ s t s_in t_in one. listed_one s t ((are.together s t s_in t_in).0 one);
  }

  no_location : (s t : ℕ) → n ≤ s → AreOne check.classes n t s → t ≡ s
  no_location s t high (inl same) = same
  no_location s t high (inr alike) = absurd (omega (arith, alike.second, high))

  -- a symbol that is no location is a block of its own
  alone : (s : ℕ) → n ≤ s → s < length blocks → IsAlone blocks s
  alone s high below = record { symbol = below; alone = λ t t_in one. no_location s t high ((are.together t s t_in below).0 one) }

  drop_alone : IsAlone blocks (drop_symbol n)
  drop_alone = alone (drop_symbol n) (omega arith) (omega (arith, are.symbols))

  marker_alone : IsCheck check → (k : ℕ) → Contains (markers_of check.body) k → IsAlone blocks (marker_symbol n k)
  marker_alone is k (i, within, at) =
      let k_is : k ≡ 1 + i =
      sym at ∙ ap (λ (ks : List ℕ). get_or ks i k) is.numbered ∙ get_or-range_with_len 1 (length (markers_of check.body)) i k within in
      alone (marker_symbol n k) (omega (arith, k_is)) (omega (arith, k_is, within, are.symbols))

  others_alone : IsCheck check → AreOthersAlone blocks n check.body
  others_alone is = record { drop = drop_alone; markers = marker_alone is }

  -- and so are the symbols that the terms name
  pub before_alone : (AreOthersAlone blocks n check.body → NamesR (IsAlone blocks) (before_of n check.body))
      → IsCheck check → (r : RelTerm) → r ≡ before_of n check.body → NamesR (IsAlone blocks) r
  before_alone named is r form = subst (NamesR (IsAlone blocks)) (sym form) (named (others_alone is))

  pub after_alone : (AreOthersAlone blocks n check.body → NamesR (IsAlone blocks) (after_of n check.body))
      → IsCheck check → (r : RelTerm) → r ≡ after_of n check.body → NamesR (IsAlone blocks) r
  after_alone named is r form = subst (NamesR (IsAlone blocks)) (sym form) (named (others_alone is))

  pub zone_alone : (AreOthersAlone blocks n check.body → Names (IsAlone blocks) (zone_of n check.body))
      → IsCheck check → (t : PathTerm) → t ≡ zone_of n check.body → Names (IsAlone blocks) t
  zone_alone named is t form = subst (Names (IsAlone blocks)) (sym form) (named (others_alone is))
