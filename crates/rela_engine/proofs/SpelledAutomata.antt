-- An automaton over blocks of symbols, spelled by the symbols.
use Rattle.std.proofs.Common.{◌≡◌, ◌⊎◌, ◌∙◌, ℕ, ◌<◌, ◌≤◌, ◌↔◌, true, List, [], ◌∷◌, length, get_or, map, refl, sym, ap, subst, inl, inr, arith}
use Rattle.std.specs.List.{All}
use Rattle.std.proofs.lemmas.Bool.{cases_lt}
use Rattle.std.proofs.lemmas.List.{length-map}
use Rattle.std.proofs.lemmas.List.Elements.{All-head, All-tail, All-weaker}
use Rattle.std.proofs.lemmas.List.FromFn.{get_or-map-range_with_len, length-map-range_with_len}
use Rattle.rela_build.specs.Reading.{read_by, HoldsJust}
use Rattle.rela_labels.specs.Letters.{has}
use Rattle.rela_labels.specs.Partition.{block_of, block_count, IsPartition}
use Rattle.rela_names.specs.Shortlex.{IsBefore, IsSmaller}
use Rattle.rela_rir.specs.Meaning.{IsPathWord}
use Rattle.rela_subset.specs.Deterministic as det
use Rattle.rela_subset.specs.Deterministic.{Deterministic, IsDeterministic, IsOver, next, states, state_after}
use Rattle.rela_engine.specs.Seen.{AreLeast}
use Rattle.rela_engine.specs.Spelled.{IsLeastBy, spelled, spelled_row}
use Rattle.rela_engine.specs.SymbolAutomata.{SymbolAutomaton, AcceptSame, AcceptsFrom, IsComplete, IsMinimalOf, LeadsTo, led_from, row_of}
use Rattle.rela_engine.proofs.LeastSymbols.{least_word, least_words}
use Rattle.rela_engine.proofs.LeastWords.{IsLeast}
use Rattle.rela_engine.proofs.LetterLaws.{has_below, next_within, over_path, read_symbol}

-- ---- words of least symbols come first

module _ (blocks : List ℕ) (is : IsPartition blocks) where
  abbrev read : ℕ → ℕ
  read = read_by blocks

  -- the least symbol of an earlier block comes before each symbol of a later one
  smaller_symbol : (s t : ℕ) → IsLeast blocks s → t < length blocks → read s < read t → s < t
  smaller_symbol s t least t_in less =
      let letters : block_of blocks s < block_of blocks t = omega (arith, less, read_symbol blocks s least.within, read_symbol blocks t t_in) in
      let earlier = is.by_least t (block_of blocks s) t_in letters in
      elim (cases_lt earlier.0 s) [
        | inl before ↦ absurd (least.least earlier.0 before earlier.2)
        | inr after ↦ omega (arith, after, earlier.1)
      ]

  -- the least symbol of a block comes before each other one of it
  not_greater : (s t : ℕ) → IsLeast blocks s → t < length blocks → read s ≡ read t → (s < t) ⊎ (s ≡ t)
  not_greater s t least t_in same =
      let together : block_of blocks t ≡ block_of blocks s = sym (read_symbol blocks t t_in) ∙ sym same ∙ read_symbol blocks s least.within in
      elim (cases_lt t s) [
        | inl before ↦ absurd (least.least t before together)
        | inr after ↦ elim (cases_lt s t) [
          | inl less ↦ inl less
          | inr more ↦ inr (omega (arith, after, more))
        ]
      ]

  smaller_symbols : (v w : List ℕ) → All (IsLeast blocks) v → All (λ s. s < length blocks) w → IsSmaller (map read v) (map read w) → IsSmaller v w
  smaller_symbols [] w least within smaller = absurd smaller
  smaller_symbols (s ∷ v) [] least within smaller = absurd smaller
  smaller_symbols (s ∷ v) (t ∷ w) least within smaller =
      let s_least = All-head (IsLeast blocks) s v least in
      let t_in = All-head (λ r. r < length blocks) t w within in
      elim smaller [
        | inl less ↦ inl (smaller_symbol s t s_least t_in less)
        | inr both ↦ elim (not_greater s t s_least t_in both.0) [
          | inl less ↦ inl less
          | inr same ↦ inr (same, smaller_symbols v w (All-tail (IsLeast blocks) s v least) (All-tail (λ r. r < length blocks) t w within) both.1)
        ]
      ]

  -- a word of least symbols is before each word whose letters come after its letters
  pub before_symbols : (v w : List ℕ) → All (IsLeast blocks) v → All (λ s. s < length blocks) w → IsBefore (map read v) (map read w) → IsBefore v w
  before_symbols v w least within before =
      let v_long = length-map v read in
      let w_long = length-map w read in
      elim before [
        | inl shorter ↦ inl (omega (arith, shorter, v_long, w_long))
        | inr rest ↦ inr (sym v_long ∙ rest.0 ∙ w_long, smaller_symbols v w least within rest.1)
      ]

-- ---- the automaton over symbols

module _ (blocks : List ℕ) (n : ℕ) (d : Deterministic) (few : n ≤ length blocks) (ok : IsDeterministic d)
    (over : HoldsJust blocks (λ s. s < n) d.over) where
  abbrev f : ℕ → ℕ
  f = read_by blocks

  abbrev a : SymbolAutomaton
  a = spelled blocks n d

  symbol_in : (s : ℕ) → s < n → s < length blocks
  symbol_in s below = omega (arith, below, few)

  pub row_at : (q : ℕ) → q < states d → row_of a q ≡ spelled_row blocks n d q
  row_at q below = get_or-map-range_with_len (spelled_row blocks n d) 0 (states d) q q [] below (omega arith)

  in_row : (q s e : ℕ) → s < n → get_or (spelled_row blocks n d q) s e ≡ next d q (f s)
  in_row q s e below =
      get_or-map-range_with_len (λ t. next d q (block_of blocks t)) 0 n s s e below (omega arith)
      ∙ ap (next d q) (sym (read_symbol blocks s (symbol_in s below)))

  next_at : (q s : ℕ) → q < states d → s < n → get_or (row_of a q) s 0 ≡ next d q (f s)
  next_at q s q_in s_in = ap (λ (row : List ℕ). get_or row s 0) (row_at q q_in) ∙ in_row q s 0 s_in

  pub row_states : (q : ℕ) → q < states d → All (λ to. to < states d) (spelled_row blocks n d q)
  row_states q q_in s e within =
      let s_in : s < n = omega (arith, within, length-map-range_with_len (λ t. next d q (block_of blocks t)) 0 n) in
      subst (λ (to : ℕ). to < states d) (sym (in_row q s e s_in)) (next_within d ok q (f s))

  complete : 0 < states d → IsComplete n a
  complete some = record {
    start = some;
    each = length-map-range_with_len (spelled_row blocks n d) 0 (states d);
    symbols_of = λ q q_in. ap length (row_at q q_in) ∙ length-map-range_with_len (λ t. next d q (block_of blocks t)) 0 n;
    states_of = λ q q_in. subst (All (λ to. to < states d)) (sym (row_at q q_in)) (row_states q q_in);
  }

  led : (q : ℕ) (word : List ℕ) → q < states d → IsPathWord n word → led_from a q word ≡ det.led_from d q (map f word)
  led q [] q_in path = refl
  led q (s ∷ rest) q_in path =
      let s_in = All-head (λ t. t < n) s rest path in
      ap (λ (p : ℕ). led_from a p rest) (next_at q s q_in s_in)
      ∙ led (next d q (f s)) rest (next_within d ok q (f s)) (All-tail (λ t. t < n) s rest path)

  accepts : (q : ℕ) (word : List ℕ) → q < states d → IsPathWord n word → AcceptsFrom a q word ↔ det.IsFinal d (det.led_from d q (map f word))
  accepts q word q_in path = (subst (det.IsFinal d) (led q word q_in path), subst (det.IsFinal d) (sym (led q word q_in path)))

  -- ---- the first words over symbols

  module _ (is : IsPartition blocks) where
    letters_below : (v : List ℕ) → IsOver d.over v → All (λ k. k < block_count blocks) v
    letters_below v each =
        All-weaker (λ k. has d.over k ≡ true) (λ k. k < block_count blocks)
        (λ k among. (let below : k < length d.over = has_below d.over k among in omega (arith, below, over.size))) v each

    -- a word of letters that are read is that of a word of least symbols
    record LeastFor (v : List ℕ) : Type 0 where
      word : List ℕ
      path : IsPathWord n word
      are : AreLeast blocks v word

    for_letters : (v : List ℕ) → IsOver d.over v → LeastFor v
    for_letters v each =
        let are = least_words blocks is v (letters_below v each) in record {
          word = least_word blocks is v;
          path = (over_path f d.over n over.holds (least_word blocks is v)).0 (subst (IsOver d.over) (sym are.read) each);
          are = are;
        }

    module _ (words : List ℕ → Type 0) (by : IsLeastBy blocks n words d) where
      start_in : 0 < states d
      start_in = subst (λ (q : ℕ). q < states d) by.start ok.automaton.starts

      from_start : (v : List ℕ) → det.led_from d 0 v ≡ state_after d v
      from_start v = ap (λ (q : ℕ). det.led_from d q v) (sym by.start)

      to_letters : (q : ℕ) (w : List ℕ) → LeadsTo n a q w → det.LeadsTo d q (map f w)
      to_letters q w (path, at) = (
        (over_path f d.over n over.holds w).1 path,
        sym (from_start (map f w)) ∙ sym (led 0 w start_in path) ∙ at,
      )

      to_symbols : (q : ℕ) (v : List ℕ) (leads : det.LeadsTo d q v) (l : LeastFor v) → LeadsTo n a q l.word
      to_symbols q v leads l = (
        l.path,
        led 0 l.word start_in l.path ∙ ap (λ (u : List ℕ). det.led_from d 0 u) l.are.read ∙ from_start v ∙ leads.1,
      )

      same_states : (p q : ℕ) → p < states d → q < states d → AcceptSame n a p q → p ≡ q
      same_states p q p_in q_in same =
          by.minimal p q p_in q_in (λ v each.
          (let l = for_letters v each in
          let here = same l.word l.path in
          let p_is = accepts p l.word p_in l.path in
          let q_is = accepts q l.word q_in l.path in
          let read = l.are.read in (
            λ final.
                subst (λ (u : List ℕ). det.IsFinal d (det.led_from d q u)) read
                (q_is.0 (here.0 (p_is.1 (subst (λ (u : List ℕ). det.IsFinal d (det.led_from d p u)) (sym read) final)))),
            λ final.
                subst (λ (u : List ℕ). det.IsFinal d (det.led_from d p u)) read
                (p_is.0 (here.1 (q_is.1 (subst (λ (u : List ℕ). det.IsFinal d (det.led_from d q u)) (sym read) final)))),
          )))

      by_arrival : (p q : ℕ) (w : List ℕ) → p < q → LeadsTo n a q w → (earlier : List ℕ) × LeadsTo n a p earlier × IsBefore earlier w
      by_arrival p q w less leads =
          let first = by.arrival p q (map f w) less (to_letters q w leads) in
          let l = for_letters first.0 first.1.0 in (
            l.word,
            to_symbols p first.0 first.1 l,
            before_symbols blocks is l.word w l.are.least
                (All-weaker (λ s. s < n) (λ s. s < length blocks) symbol_in w leads.0)
                (subst (λ (u : List ℕ). IsBefore u (map f w)) (sym l.are.read) first.2),
          )

      pub minimal_of : IsMinimalOf n words a
      minimal_of = record {
        complete = complete start_in;
        language = λ word path.
            (let accepted = accepts 0 word start_in path in
            let from = from_start (map f word) in
            let told = by.language word path in (
              λ is_accepted. told.0 (subst (det.IsFinal d) from (accepted.0 is_accepted)),
              λ is_word. accepted.1 (subst (det.IsFinal d) (sym from) (told.1 is_word)),
            ));
        reached = λ q q_in.
            (let some = by.reached q q_in in
            let l = for_letters some.0 some.1.0 in (l.word, to_symbols q some.0 some.1 l));
        apart = same_states;
        arrival = by_arrival;
      }
