-- The text of an automaton over blocks of symbols, state by state.
use Rattle.std.proofs.Common.{◌≡◌, ◌∙◌, ℕ, ◌+◌, ◌<◌, ◌≤◌, ◌↔◌, ◌++◌, Bool, true, false, List, [], ◌∷◌, length, get_or, map, refl, sym, ap, subst, append_assoc, arith}
use Rattle.std.specs.Bool.{IsTrue}
use Rattle.std.specs.List.{All, flat_map, range_with_len}
use Rattle.std.proofs.lemmas.Bool.{false≢true, false_from_ne_true}
use Rattle.std.proofs.lemmas.List.{append-nil, ext_get_or, map-id}
use Rattle.std.proofs.lemmas.List.Concat.{flat_map-append}
use Rattle.std.proofs.lemmas.List.FromFn.{get_or-map-range_with_len, length-map-range_with_len, map-range_with_len_more}
use Rattle.rela_build.specs.Reading.{HoldsJust}
use Rattle.rela_labels.specs.Letters.{has}
use Rattle.rela_labels.specs.Partition.{block_of}
use Rattle.rela_subset.specs.Deterministic.{Deterministic, IsDeterministic, IsFinal, next, states}
use Rattle.rela_engine.specs.AutomatonText.{lines_of, state_lines}
use Rattle.rela_engine.specs.Spelled.{spelled, spelled_row}
use Rattle.rela_engine.specs.SymbolAutomata.{row_of}
use Rattle.rela_engine.proofs.LetterLaws.{has_below, read_symbol}
use Rattle.rela_engine.proofs.SpelledAutomata.{row_at, row_states}

-- of two booleans that are true alike there is one
same_truth : (a b : Bool) → IsTrue a ↔ IsTrue b → a ≡ b
same_truth true b is = sym (is.0 refl)
same_truth false b is = sym (false_from_ne_true b (λ told. false≢true (is.1 told)))

range_more : (n : ℕ) → range_with_len 0 (n + 1) ≡ range_with_len 0 n ++ n ∷ []
range_more n =
    sym (map-id (range_with_len 0 (n + 1)))
    ∙ map-range_with_len_more (λ (s : ℕ). s) 0 n n (omega arith)
    ∙ ap (λ (l : List ℕ). l ++ n ∷ []) (map-id (range_with_len 0 n))

-- one more of the numbers from 0 on
pub flat_more : (f : ℕ → List ℕ) (n : ℕ) → flat_map f (range_with_len 0 (n + 1)) ≡ flat_map f (range_with_len 0 n) ++ f n
flat_more f n =
    ap (flat_map f) (range_more n)
    ∙ flat_map-append f (range_with_len 0 n) (n ∷ [])
    ∙ ap (λ (l : List ℕ). flat_map f (range_with_len 0 n) ++ l) (append-nil (f n))

module _ (blocks : List ℕ) (n : ℕ) (d : Deterministic) (few : n ≤ length blocks) (ok : IsDeterministic d)
    (over : HoldsJust blocks (λ s. s < n) d.over) where
  -- the row by the letters
  pub row_is : (q : ℕ) (by_letter row : List ℕ) → ((k : ℕ) → k < length d.over → get_or by_letter k 0 ≡ next d q k)
      → row ≡ map (λ s. get_or by_letter (block_of blocks s) 0) (range_with_len 0 n) → row ≡ spelled_row blocks n d q
  row_is q by_letter row led row_are =
      row_are ∙ ext_get_or 0 (map g (range_with_len 0 n)) (spelled_row blocks n d q) (length-map-range_with_len g 0 n ∙ sym (length-map-range_with_len h 0 n)) each
    where
      g : ℕ → ℕ
      g s = get_or by_letter (block_of blocks s) 0

      h : ℕ → ℕ
      h s = next d q (block_of blocks s)

      letter : (s : ℕ) → s < n → block_of blocks s < length d.over
      letter s below =
          has_below d.over (block_of blocks s)
          (subst (λ (k : ℕ). has d.over k ≡ true) (read_symbol blocks s (omega (arith, below, few))) ((over.holds s).1 below))

      each : (s : ℕ) → s < length (map g (range_with_len 0 n)) → get_or (map g (range_with_len 0 n)) s 0 ≡ get_or (spelled_row blocks n d q) s 0
      each s inside =
          let below : s < n = omega (arith, inside, length-map-range_with_len g 0 n) in
          get_or-map-range_with_len g 0 n s s 0 below (omega arith)
          ∙ led (block_of blocks s) (letter s below)
          ∙ sym (get_or-map-range_with_len h 0 n s s 0 below (omega arith))

  -- the lines of one more state
  pub state_more : (names : List (List ℕ)) (q : ℕ) (accepts : Bool) (row head old new : List ℕ) → q < states d → row ≡ spelled_row blocks n d q
      → IsTrue accepts ↔ IsFinal d q
      → ((count : ℕ) → All (λ to. to < count) row → new ≡ old ++ state_lines names count q accepts row)
      → old ≡ head ++ flat_map (lines_of names (spelled blocks n d)) (range_with_len 0 q)
      → new ≡ head ++ flat_map (lines_of names (spelled blocks n d)) (range_with_len 0 (q + 1))
  state_more names q accepts row head old new q_in row_are final written before =
      let a = spelled blocks n d in
      let in_text : row ≡ row_of a q = row_are ∙ sym (row_at blocks n d few ok over q q_in) in
      let told : accepts ≡ get_or d.finals q false = same_truth accepts (get_or d.finals q false) final in
      let below : All (λ to. to < states d) row = subst (All (λ to. to < states d)) (sym row_are) (row_states blocks n d few ok over q q_in) in
      let lines : state_lines names (states d) q accepts row ≡ lines_of names a q =
      ap (λ (b : Bool). state_lines names (states d) q b row) told
      ∙ ap (λ (r : List ℕ). state_lines names (states d) q (get_or d.finals q false) r) in_text in
      written (states d) below
      ∙ ap (λ (l : List ℕ). old ++ l) lines
      ∙ ap (λ (l : List ℕ). l ++ lines_of names a q) before
      ∙ append_assoc head (flat_map (lines_of names a) (range_with_len 0 q)) (lines_of names a q)
      ∙ ap (λ (l : List ℕ). head ++ l) (sym (flat_more (lines_of names a) q))
