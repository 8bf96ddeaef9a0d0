-- The parts that are complemented in a term, where the limit bounds the sets of states that words reach.
use Rattle.std.proofs.Common.{◌≡◌, ◌∙◌, ◌↔◌, ℕ, zero, suc, ◌+◌, ◌<◌, Bool, true, List, [], ◌∷◌, ◌++◌, length, get_or, map, inl, inr, refl, sym, ap, subst, arith}
use Rattle.std.specs.List.{All, AllPairs}
use Rattle.std.specs.Prelude.{Contains}
use Rattle.std.proofs.lemmas.List.{get_or-map, map-append, length-map}
use Rattle.std.proofs.lemmas.List.Elements.{All-nil, All-cons, All-head, All-tail, All-weaker, All-map}
use Rattle.rela_labels.specs.Letters.{has}
use Rattle.rela_labels.specs.Partition.{block_count}
use Rattle.rela_nfa.specs.Automaton.{Automaton}
use Rattle.rela_nfa.specs.Runs.{Accepts}
use Rattle.rela_rir.specs.Complements.{complemented_parts_r}
use Rattle.rela_rir.specs.Limit.{Reached, ReachedInsideR, ForcedInsideR, AreTold, ToldByContinuing}
use Rattle.rela_rir.specs.Meaning.{IsPathWord}
use Rattle.rela_rir.specs.Places.{Scene}
use Rattle.rela_rir.specs.Tables.{IsPlaced, ManyWords, ToldByState}
use Rattle.rela_rir.specs.declared.term.PathTerm.{PathTerm}
use Rattle.rela_rir.specs.declared.term.RelTerm.{RelTerm}
use Rattle.rela_rir.specs.declared.term.PathTerm.TheVariants.{Complement}
use Rattle.rela_subset.specs.Deterministic.{IsOver}
use Rattle.rela_subset.specs.Subsets.{AreApart, ReachSets}
use Rattle.rela_trans.specs.Composition.{Covers}
use Rattle.rela_build.specs.Lettering.{Lettering}
use Rattle.rela_build.specs.Made.{IsMade, Leads}
use Rattle.rela_build.specs.Notes.{AreNoted, IsPart, IsRefused, NotedR, StoppedR}
use Rattle.rela_build.specs.PathSets.{Paths, scene_of}
use Rattle.rela_build.specs.Reading.{read_by, HoldsJust}
use Rattle.rela_build.specs.declared.stop.Stop.{Stop}
use Rattle.rela_build.specs.declared.stop.Stop.TheVariants.{Limit, Refused, Memory}
use Rattle.rela_complement.specs.Telling.{IsTold, TellsWords}
use Rattle.rela_engine.proofs.LetterLaws.{has_below, over_path}

-- pairs of a list, by those of what it is mapped to
mapped_pairs : {X Y : Type 0} (R : Y → Y → Type 0) (S : X → X → Type 0) (f : X → Y) → ((x y : X) → R (f x) (f y) → S x y) → (xs : List X)
    → AllPairs R (map f xs) → AllPairs S xs
mapped_pairs R S f on xs pairs i j d before inside =
    let first = get_or-map f xs i d (f d) (omega (arith, before, inside)) in
    let second = get_or-map f xs j d (f d) inside in
    on (get_or xs i d) (get_or xs j d)
    (subst (λ y. R y (f (get_or xs j d))) first
    (subst (λ y. R (get_or (map f xs) i (f d)) y) second (pairs i j (f d) before (omega (arith, inside, length-map xs f)))))

-- and the other way round
pairs_mapped : {X Y : Type 0} (R : Y → Y → Type 0) (S : X → X → Type 0) (f : X → Y) → ((x y : X) → S x y → R (f x) (f y)) → (xs : List X) → X
    → AllPairs S xs → AllPairs R (map f xs)
pairs_mapped R S f on xs x pairs i j d before inside =
    let j_in : j < length xs = omega (arith, inside, length-map xs f) in
    let i_in : i < length xs = omega (arith, before, j_in) in
    subst (λ y. R y (get_or (map f xs) j d)) (sym (get_or-map f xs i x d i_in))
    (subst (λ y. R (f (get_or xs i x)) y) (sym (get_or-map f xs j x d j_in)) (on (get_or xs i x) (get_or xs j x) (pairs i j x before j_in)))

-- a complement has as many reached places as there are words that states of its part tell apart
abbrev pub TellsPaths : Scene → Type 0
TellsPaths m = (x : PathTerm) (a : List ℕ × Automaton) → IsPlaced m x (Leads a.0 a.1) → (k : ℕ)
    → ManyWords (IsPathWord m.setting.path_symbols) (ToldByState (Leads a.0 a.1)) k → Reached m (Complement x) k

-- a complement of a part with so many reached places is a counted term that is inside
abbrev ReachedByParts : Scene → Type 0
ReachedByParts m = (k : ℕ) (r : RelTerm) (part : PathTerm) → Contains (complemented_parts_r r) part → Reached m (Complement part) k → ReachedInsideR m k r

-- an answer is forced where a complemented part tells so many words
abbrev ForcedByParts : Scene → Type 0
ForcedByParts m = (k : ℕ) (r : RelTerm) → ForcedInsideR m k r ↔ ((part : PathTerm) × Contains (complemented_parts_r r) part × AreTold m part k)

module _ (l : Lettering) (paths : Paths) where
  abbrev pub m : Scene
  m = scene_of l paths

  abbrev f : ℕ → ℕ
  f = read_by l.blocks

  abbrev IsPath : List ℕ → Type 0
  IsPath w = IsPathWord l.path_symbols w

  -- ---- more sets of states than the limit: the complement has as many places

  module _ (covers : Covers f (block_count l.blocks)) (over : List Bool) (of_path : HoldsJust l.blocks (λ s. s < l.path_symbols) over) where
    -- a word of path symbols for a word of their letters
    word_for : (v : List ℕ) → IsOver over v → (w : List ℕ) × IsPath w × (map f w ≡ v)
    word_for [] each = ([], All-nil (λ s. s < l.path_symbols), refl)
    word_for (k ∷ v) each =
        let among : has over k ≡ true = All-head (λ letter. has over letter ≡ true) k v each in
        let rest = word_for v (All-tail (λ letter. has over letter ≡ true) k v each) in
        let below : k < block_count l.blocks = omega (arith, has_below over k among, of_path.size) in
        let symbol = covers k below in
        let path : symbol.0 < l.path_symbols = (of_path.holds symbol.0).0 (ap (has over) symbol.1 ∙ among) in (
          symbol.0 ∷ rest.0,
          All-cons (λ s. s < l.path_symbols) symbol.0 rest.0 path rest.1,
          ap (λ (j : ℕ). j ∷ map f rest.0) symbol.1 ∙ ap (λ (u : List ℕ). k ∷ u) rest.2,
        )

    words_for : (vs : List (List ℕ)) → All (IsOver over) vs → (ws : List (List ℕ)) × All IsPath ws × (map (map f) ws ≡ vs)
    words_for [] each = ([], All-nil IsPath, refl)
    words_for (v ∷ vs) each =
        let first = word_for v (All-head (IsOver over) v vs each) in
        let rest = words_for vs (All-tail (IsOver over) v vs each) in (
          first.0 ∷ rest.0,
          All-cons IsPath first.0 rest.0 first.1 rest.1,
          ap (λ (u : List ℕ). u ∷ map (map f) rest.0) first.2 ∙ ap (λ (us : List (List ℕ)). v ∷ us) rest.2,
        )

    told_apart : (a : Automaton) (v w : List ℕ) → AreApart a (map f v) (map f w) → ToldByState (Leads l.blocks a) v w
    told_apart a v w (q, inl first) = (q, inl first)
    told_apart a v w (q, inr second) = (q, inr (second.1, second.0))

    pub many_words : (a : Automaton) (k : ℕ) → ReachSets a over k → ManyWords IsPath (ToldByState (Leads l.blocks a)) k
    many_words a k sets =
        let ws = words_for sets.words sets.letters in record {
          words = ws.0;
          many = sym (length-map ws.0 (map f)) ∙ ap length ws.2 ∙ sets.count;
          each = ws.1;
          apart = mapped_pairs (AreApart a) (ToldByState (Leads l.blocks a)) (map f) (told_apart a) ws.0 (subst (AllPairs (AreApart a)) (sym ws.2) sets.apart);
        }

  pub placed : (exactly : Type 0) (x : PathTerm) (a : Automaton) → IsMade exactly l paths x a → IsPlaced m x (Leads l.blocks a)
  unfolding IsMade
  placed exactly x a made = record { table = made.table; is_table = made.placed }

  abbrev pub Refuses : ℕ → ℕ → Automaton → List Bool → Type 0
  Refuses k number a over = ReachSets a over k

  pub has_part : (parts before later : List PathTerm) (part : PathTerm) → parts ≡ before ++ part ∷ later → Contains parts part
  has_part parts before later part whole = subst (λ (ps : List PathTerm). Contains ps part) (sym whole) (listed before) where
    listed : (front : List PathTerm) → Contains (front ++ part ∷ later) part
    listed [] = (0, omega arith, refl)
    listed (p ∷ front) = let rest = listed front in (suc rest.0, omega (arith, rest.1), rest.2)

  refused_inside : TellsPaths m → ReachedByParts m → (covers : Covers f (block_count l.blocks)) (exactly : Type 0) (first k number : ℕ) (r : RelTerm)
      → IsRefused (Refuses k) exactly l paths first (complemented_parts_r r) number → ReachedInsideR m k r
  refused_inside complement by_parts covers exactly first k number r refused =
      by_parts k r refused.part (has_part (complemented_parts_r r) refused.before refused.later refused.part refused.whole)
      (complement refused.part (l.blocks, refused.automaton) (placed exactly refused.part refused.automaton refused.is.made) k
      (many_words covers refused.over refused.is.of_path refused.automaton k refused.refused))

  -- why a relation wasn't built, if not for want of memory
  pub stopped_inside : TellsPaths m → ReachedByParts m → Covers f (block_count l.blocks) → (exactly : Type 0) (states limit first : ℕ) → states ≡ limit → (r : RelTerm) (e : Stop)
      → StoppedR (Refuses (states + 1)) exactly l paths limit first r e → ¬ (e ≡ Memory) → ReachedInsideR m (limit + 1) r
  unfolding StoppedR
  stopped_inside complement by_parts covers exactly states limit first same r Limit stopped other = stopped
  stopped_inside complement by_parts covers exactly states limit first same r (Refused number) stopped other =
      subst (λ (n : ℕ). ReachedInsideR m (n + 1) r) same (refused_inside complement by_parts covers exactly first (states + 1) number r stopped)
  stopped_inside complement by_parts covers exactly states limit first same r Memory stopped other = absurd (other refl)

  -- ---- each complement was made: no more words are told by continuing them than the limit

  told_on : (exactly : Type 0) (x : PathTerm) (a : Automaton) (over : List Bool) → IsPart exactly l paths x a over → (v w : List ℕ) → ToldByContinuing m x v w → IsTold a over (map f v) (map f w)
  unfolding IsMade
  told_on exactly x a over is v w (z, path, inl first) = (
    map f z,
    (over_path f over l.path_symbols is.of_path.holds z).1 path,
    inl (
      subst (Accepts a) (map-append f v z) ((is.made.language (v ++ z)).1 first.0),
      λ accepted. first.1 ((is.made.language (w ++ z)).0 (subst (Accepts a) (sym (map-append f w z)) accepted)),
    ),
  )
  told_on exactly x a over is v w (z, path, inr second) = (
    map f z,
    (over_path f over l.path_symbols is.of_path.holds z).1 path,
    inr (
      subst (Accepts a) (map-append f w z) ((is.made.language (w ++ z)).1 second.1),
      λ accepted. second.0 ((is.made.language (v ++ z)).0 (subst (Accepts a) (sym (map-append f v z)) accepted)),
    ),
  )

  pub told_words : (exactly : Type 0) (x : PathTerm) (a : Automaton) (over : List Bool) (k : ℕ) → IsPart exactly l paths x a over → AreTold m x k → TellsWords a over k
  told_words exactly x a over k is told = record {
    words = map (map f) told.words;
    count = length-map told.words (map f) ∙ told.many;
    letters = All-map (IsOver over) (map f) told.words
        (All-weaker IsPath (λ w. IsOver over (map f w)) (λ w. (over_path f over l.path_symbols is.of_path.holds w).1) told.words told.symbols);
    told = pairs_mapped (IsTold a over) (ToldByContinuing m x) (map f) (told_on exactly x a over is) told.words [] told.told;
  }

  abbrev pub Answers : {N : Type 0} → ℕ → ℕ → Automaton → List Bool → N → Type 0
  Answers k number a over note = ¬ TellsWords a over k

  pub none_told : {N : Type 0} (exactly : Type 0) (k first : ℕ) (parts : List PathTerm) (notes : List N) → AreNoted (Answers k) exactly l paths first parts notes
      → (part : PathTerm) → Contains parts part → ¬ AreTold m part k
  none_told exactly k first [] notes noted part (i, inside, at) told = absurd (omega (arith, inside))
  none_told exactly k first (p ∷ parts) [] noted part listed told = absurd noted
  none_told exactly k first (p ∷ parts) (note ∷ notes) (here, later) part (zero, inside, at) told =
      here.3 (told_words exactly p here.0 here.1 k here.2 (subst (λ (x : PathTerm). AreTold m x k) (sym at) told))
  none_told exactly k first (p ∷ parts) (note ∷ notes) (here, later) part (suc i, inside, at) told =
      none_told exactly k (first + 1) parts notes later part (i, omega (arith, inside), at) told

  -- where each complement was made, none has a part that tells more words than the limit
  pub noted_within : {N : Type 0} → ForcedByParts m → (exactly : Type 0) (states limit : ℕ) → states ≡ limit → (r : RelTerm) (old new : List N)
      → NotedR (Answers (states + 1)) exactly l paths r old new → ¬ ForcedInsideR m (limit + 1) r
  unfolding NotedR
  noted_within by_parts exactly states limit same r old new (more, is, noted) forced =
      let told = (by_parts (limit + 1) r).0 forced in
      none_told exactly (states + 1) (length old) (complemented_parts_r r) more noted told.0 told.1
      (subst (λ (n : ℕ). AreTold m told.0 (n + 1)) (sym same) told.2)
