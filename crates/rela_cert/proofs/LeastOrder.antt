-- Words of the least symbols of their blocks stand in the order of their letters.
use Rattle.std.proofs.Common.{◌≡◌, ◌∙◌, ℕ, ◌<◌, List, [], ◌∷◌, length, map, sym, ap, inl, inr, arith}
use Rattle.std.specs.List.{All, AllPairs}
use Rattle.std.proofs.lemmas.Bool.{cases_lt}
use Rattle.std.proofs.lemmas.List.{get_or-map, length-map}
use Rattle.std.proofs.lemmas.List.Elements.{All-head, All-tail}
use Rattle.rela_build.specs.Reading.{read_by}
use Rattle.rela_labels.specs.Partition.{IsLeastOf, IsPartition, block_of}
use Rattle.rela_names.specs.Shortlex.{IsBefore, IsSmaller}
use Rattle.rela_cert.proofs.LetterLaws.{read_symbol}

abbrev pub IsLeast : List ℕ → ℕ → Type 0
IsLeast blocks s = IsLeastOf blocks (block_of blocks s) s

module _ (blocks : List ℕ) (is : IsPartition blocks) where
  abbrev f : ℕ → ℕ
  f = read_by blocks

  -- of two least symbols with one letter there is one
  same_least : (s t : ℕ) → IsLeast blocks s → IsLeast blocks t → f s ≡ f t → s ≡ t
  same_least s t s_least t_least same =
      let together : block_of blocks s ≡ block_of blocks t = sym (read_symbol blocks s s_least.within) ∙ same ∙ read_symbol blocks t t_least.within in
      elim (cases_lt s t) [
        | inl less ↦ absurd (t_least.least s less together)
        | inr more ↦ elim (cases_lt t s) [
          | inl less ↦ absurd (s_least.least t less (sym together))
          | inr other ↦ omega (arith, more, other)
        ]
      ]

  -- a symbol before the least of a block has a letter before its letter
  smaller_letter : (s t : ℕ) → IsLeast blocks t → s < t → f s < f t
  smaller_letter s t least less =
      let below : s < length blocks = omega (arith, less, least.within) in
      elim (cases_lt (block_of blocks s) (block_of blocks t)) [
        | inl smaller ↦ omega (arith, smaller, read_symbol blocks s below, read_symbol blocks t least.within)
        | inr not_smaller ↦ elim (cases_lt (block_of blocks t) (block_of blocks s)) [
          | inl greater ↦
              let earlier = is.by_least s (block_of blocks t) below greater in
              absurd (least.least earlier.0 (omega (arith, earlier.1, less)) earlier.2)
          | inr not_greater ↦ absurd (least.least s less (omega (arith, not_smaller, not_greater)))
        ]
      ]

  smaller_letters : (v w : List ℕ) → All (IsLeast blocks) w → IsSmaller v w → IsSmaller (map f v) (map f w)
  smaller_letters [] w least smaller = absurd smaller
  smaller_letters (s ∷ v) [] least smaller = absurd smaller
  smaller_letters (s ∷ v) (t ∷ w) least smaller = elim smaller [
    | inl less ↦ inl (smaller_letter s t (All-head (IsLeast blocks) t w least) less)
    | inr rest ↦ inr (ap f rest.0, smaller_letters v w (All-tail (IsLeast blocks) t w least) rest.1)
  ]

  -- what is before a word of least symbols has letters that are before its letters
  pub before_letters : (v w : List ℕ) → All (IsLeast blocks) w → IsBefore v w → IsBefore (map f v) (map f w)
  before_letters v w least before =
      let v_long = length-map v f in
      let w_long = length-map w f in
      elim before [
        | inl shorter ↦ inl (omega (arith, shorter, v_long, w_long))
        | inr rest ↦ inr (v_long ∙ rest.0 ∙ sym w_long, smaller_letters v w least rest.1)
      ]

  -- of two least symbols the one with the smaller letter is smaller
  smaller_symbol : (s t : ℕ) → IsLeast blocks s → IsLeast blocks t → f s < f t → s < t
  smaller_symbol s t s_least t_least less =
      elim (cases_lt s t) [
        | inl smaller ↦ smaller
        | inr more ↦ elim (cases_lt t s) [
          | inl greater ↦ let back = smaller_letter t s s_least greater in absurd (omega (arith, less, back))
          | inr other ↦ let e : s ≡ t = omega (arith, more, other) in let same = ap f e in absurd (omega (arith, less, same))
        ]
      ]

  smaller_symbols : (v w : List ℕ) → All (IsLeast blocks) v → All (IsLeast blocks) w → IsSmaller (map f v) (map f w) → IsSmaller v w
  smaller_symbols [] w v_least w_least smaller = absurd smaller
  smaller_symbols (s ∷ v) [] v_least w_least smaller = absurd smaller
  smaller_symbols (s ∷ v) (t ∷ w) v_least w_least smaller = elim smaller [
    | inl less ↦ inl (smaller_symbol s t (All-head (IsLeast blocks) s v v_least) (All-head (IsLeast blocks) t w w_least) less)
    | inr rest ↦ inr (
      same_least s t (All-head (IsLeast blocks) s v v_least) (All-head (IsLeast blocks) t w w_least) rest.0,
      smaller_symbols v w (All-tail (IsLeast blocks) s v v_least) (All-tail (IsLeast blocks) t w w_least) rest.1,
    )
  ]

  -- of two words of least symbols, the one whose letters are before is before
  pub before_symbols : (v w : List ℕ) → All (IsLeast blocks) v → All (IsLeast blocks) w → IsBefore (map f v) (map f w) → IsBefore v w
  before_symbols v w v_least w_least before =
      let v_long = length-map v f in
      let w_long = length-map w f in
      elim before [
        | inl shorter ↦ inl (omega (arith, shorter, v_long, w_long))
        | inr rest ↦ inr (sym v_long ∙ rest.0 ∙ w_long, smaller_symbols v w v_least w_least rest.1)
      ]

  pub ascending_symbols : (ws : List (List ℕ)) → All (All (IsLeast blocks)) ws → AllPairs IsBefore (map (map f) ws) → AllPairs IsBefore ws
  ascending_symbols ws least ascending i j d less within =
      let in_map : j < length (map (map f) ws) = omega (arith, within, length-map ws (map f)) in
      let one = get_or-map (map f) ws i d (map f d) (omega (arith, less, within)) in
      let two = get_or-map (map f) ws j d (map f d) within in
      before_symbols _ _ (least i d (omega (arith, less, within))) (least j d within) (rw (one, two) at (ascending i j (map f d) less in_map))
