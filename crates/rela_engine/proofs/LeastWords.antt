-- Words of the least symbols of their blocks, in shortlex order.
use Rattle.std.proofs.Common.{◌≡◌, ℕ, ◌+◌, ◌<◌, ◌≤◌, ◌↔◌, List, [], ◌∷◌, ◌++◌, length, map, take, get_or, refl, sym, ap, ◌∙◌, subst, inl, inr, arith}
use Rattle.std.specs.List.{All}
use Rattle.std.proofs.lemmas.Bool.{cases_lt}
use Rattle.std.proofs.lemmas.List.{length-map, map-append, take_all, take_more}
use Rattle.std.proofs.lemmas.List.Elements.{All-nil, All-push, All-head, All-tail}
use Rattle.rela_graph.specs.Alone.{StandsAlone}
use Rattle.rela_graph.specs.Paths.{Paths}
use Rattle.rela_graph.specs.Topology.{Topology, IsTopology, symbol_at}
use Rattle.rela_labels.specs.Partition.{block_of, IsPartition, IsLeastOf}
use Rattle.rela_names.specs.Alphabet.{path_symbols}
use Rattle.rela_names.specs.declared.level.Level.{Level}
use Rattle.rela_names.specs.Shortlex.{IsSmaller, IsBefore, First}
use Rattle.rela_build.specs.Reading.{read_by}
use Rattle.rela_engine.specs.Seen.{AreLeast, NodesStandAlone}
use Rattle.rela_engine.proofs.LetterLaws.{read_symbol}
use Rattle.rela_engine.proofs.PathLetters.{path_each}

abbrev pub IsLeast : List ℕ → ℕ → Type 0
IsLeast blocks s = IsLeastOf blocks (block_of blocks s) s

-- a symbol that stands alone is the least of its block
pub alone_least : (blocks : List ℕ) (s : ℕ) → s < length blocks → StandsAlone blocks s → IsLeast blocks s
alone_least blocks s below alone = record {
  within = below;
  member = refl;
  least = λ r less same. let e : s ≡ r = alone r (omega (arith, less, below)) (sym same) in omega (arith, e, less);
}

-- of two symbols with one letter that are least there is one
same_least : (blocks : List ℕ) (s t : ℕ) → IsLeast blocks s → IsLeast blocks t → read_by blocks s ≡ read_by blocks t → s ≡ t
same_least blocks s t s_least t_least same =
    let together : block_of blocks s ≡ block_of blocks t = sym (read_symbol blocks s s_least.within) ∙ same ∙ read_symbol blocks t t_least.within in
    elim (cases_lt s t) [
      | inl less ↦ absurd (t_least.least s less together)
      | inr more ↦ elim (cases_lt t s) [
        | inl less ↦ absurd (s_least.least t less (sym together))
        | inr other ↦ omega (arith, more, other)
      ]
    ]

pub same_words : (blocks u v : List ℕ) → All (IsLeast blocks) u → All (IsLeast blocks) v → map (read_by blocks) u ≡ map (read_by blocks) v → u ≡ v
same_words blocks [] [] u_least v_least same = refl
same_words blocks [] (t ∷ v) u_least v_least same = absurd (omega (arith, ap length same))
same_words blocks (s ∷ u) [] u_least v_least same = absurd (omega (arith, ap length same))
same_words blocks (s ∷ u) (t ∷ v) u_least v_least same =
    let letter : read_by blocks s ≡ read_by blocks t = let all = same in cc in
    let letters : map (read_by blocks) u ≡ map (read_by blocks) v = let all = same in cc in
    let first = same_least blocks s t (All-head (IsLeast blocks) s u u_least) (All-head (IsLeast blocks) t v v_least) letter in
    let rest = same_words blocks u v (All-tail (IsLeast blocks) s u u_least) (All-tail (IsLeast blocks) t v v_least) letters in
    (λ i. first i ∷ rest i)

module _ (blocks : List ℕ) (is : IsPartition blocks) where
  -- a symbol before the least of a block has a letter before its letter
  smaller_letter : (s t : ℕ) → IsLeast blocks t → s < t → read_by blocks s < read_by blocks t
  smaller_letter s t least less =
      let below : s < length blocks = omega (arith, less, least.within) in
      elim (cases_lt (block_of blocks s) (block_of blocks t)) [
        | inl smaller ↦ omega (arith, smaller, read_symbol blocks s below, read_symbol blocks t least.within)
        | inr not_smaller ↦ elim (cases_lt (block_of blocks t) (block_of blocks s)) [
          | inl greater ↦
              let earlier = is.by_least s (block_of blocks t) below greater in
              absurd (least.least earlier.0 (omega (arith, earlier.1, less)) earlier.2)
          | inr not_greater ↦ absurd (least.least s less (omega (arith, not_smaller, not_greater)))
        ]
      ]

  smaller_letters : (v w : List ℕ) → All (IsLeast blocks) w → IsSmaller v w → IsSmaller (map (read_by blocks) v) (map (read_by blocks) w)
  smaller_letters [] w least smaller = absurd smaller
  smaller_letters (s ∷ v) [] least smaller = absurd smaller
  smaller_letters (s ∷ v) (t ∷ w) least smaller = elim smaller [
    | inl less ↦ inl (smaller_letter s t (All-head (IsLeast blocks) t w least) less)
    | inr rest ↦ inr (ap (read_by blocks) rest.0, smaller_letters v w (All-tail (IsLeast blocks) t w least) rest.1)
  ]

  -- what is before a word of least symbols has letters that are before its letters
  pub before_letters : (v w : List ℕ) → All (IsLeast blocks) w → IsBefore v w → IsBefore (map (read_by blocks) v) (map (read_by blocks) w)
  before_letters v w least before =
      let v_long = length-map v (read_by blocks) in
      let w_long = length-map w (read_by blocks) in
      elim before [
        | inl shorter ↦ inl (omega (arith, shorter, v_long, w_long))
        | inr rest ↦ inr (v_long ∙ rest.0 ∙ sym w_long, smaller_letters v w least rest.1)
      ]

  -- of the words of symbols in a set that is told by letters, the first has the first letters
  pub first_symbols : (letters_in words : List ℕ → Type 0) → ((w : List ℕ) → letters_in (map (read_by blocks) w) ↔ words w)
      → (letters symbols : List ℕ) → AreLeast blocks letters symbols → First letters_in letters → First words symbols
  first_symbols letters_in words told letters symbols are first = record {
    member = (told symbols).0 (subst letters_in (sym are.read) first.member);
    least = λ v is_word before.
        first.least (map (read_by blocks) v) ((told v).1 is_word)
        (subst (IsBefore (map (read_by blocks) v)) are.read (before_letters v symbols are.least before));
  }

-- one letter more, and the least symbol of its block
pub least_more : (blocks letters symbols : List ℕ) (k s : ℕ) → AreLeast blocks letters symbols → IsLeastOf blocks k s → AreLeast blocks (letters ++ k ∷ []) (symbols ++ s ∷ [])
least_more blocks letters symbols k s are least = record {
  read = map-append (read_by blocks) symbols (s ∷ [])
      ∙ ap (λ (l : List ℕ). l ++ read_by blocks s ∷ []) are.read
      ∙ ap (λ (j : ℕ). letters ++ j ∷ []) (read_symbol blocks s least.within ∙ least.member);
  least = All-push (IsLeast blocks) symbols s are.least (subst (λ j. IsLeastOf blocks j s) (sym least.member) least);
}

pub least_none : (blocks : List ℕ) → AreLeast blocks [] []
least_none blocks = record { read = refl; least = All-nil (IsLeast blocks) }

pub least_taken : (blocks letters symbols : List ℕ) (i s : ℕ) → i < length letters → AreLeast blocks (take i letters) symbols → IsLeastOf blocks (get_or letters i 0) s
    → AreLeast blocks (take (i + 1) letters) (symbols ++ s ∷ [])
least_taken blocks letters symbols i s below are least =
    subst (λ l. AreLeast blocks l (symbols ++ s ∷ [])) (sym (take_more letters i 0 below)) (least_more blocks (take i letters) symbols (get_or letters i 0) s are least)

pub least_all : (blocks letters symbols : List ℕ) (i : ℕ) → length letters ≤ i → AreLeast blocks (take i letters) symbols → AreLeast blocks letters symbols
least_all blocks letters symbols i all are = subst (λ l. AreLeast blocks l symbols) (take_all i letters all) are

-- the symbols of the paths of a graph whose nodes stand alone are the least of their blocks
pub paths_least : (blocks : List ℕ) (g : Topology) (level : Level) (alphabet : List (List ℕ)) → IsTopology g → path_symbols alphabet ≤ length blocks
    → All (λ node. symbol_at level node < length alphabet) g.nodes → NodesStandAlone blocks level g.nodes → StandsAlone blocks (length alphabet)
    → StandsAlone blocks (length alphabet + 1) → (w : List ℕ) → Paths g level alphabet w → All (IsLeast blocks) w
paths_least blocks g level alphabet is few placed alone drops loops =
    path_each g is (IsLeast blocks) level
    (λ k d within. alone_least blocks (symbol_at level (get_or g.nodes k d)) (omega (arith, placed k d within, few)) (alone k d within))
    alphabet (alone_least blocks (length alphabet) (omega (arith, few)) drops) (alone_least blocks (length alphabet + 1) (omega (arith, few)) loops)
