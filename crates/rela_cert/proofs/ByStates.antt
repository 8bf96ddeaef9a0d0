-- Lists of words that are closed by places are closed by the states that stand for them.
use Rattle.std.proofs.Common.{◌≡◌, ◌∙◌, ℕ, ◌<◌, Bool, true, List, [], ◌∷◌, ◌++◌, length, map, sym, ap, subst, arith}
use Rattle.std.proofs.lemmas.List.Elements.{All-cons, All-head, All-nil, All-tail}
use Rattle.rela_build.specs.Complement.{ReachSame}
use Rattle.rela_build.specs.Lettering.{Lettering, AreLetterBlocks}
use Rattle.rela_build.specs.Made.{IsMade, Leads}
use Rattle.rela_build.specs.PathSets.{Paths, scene_of}
use Rattle.rela_build.specs.Reading.{HoldsJust, read_by}
use Rattle.rela_labels.specs.Letters.{has}
use Rattle.rela_nfa.specs.Automaton.{Automaton}
use Rattle.rela_rir.specs.Places.{Scene, Agree, At, Place}
use Rattle.rela_rir.specs.declared.term.PathTerm.{PathTerm}
use Rattle.rela_closed.specs.Closed.{IsClosed, SameStates}
use Rattle.rela_cert.specs.Closed.{AgreeOnAll, Closed}
use Rattle.rela_cert.specs.Letters.{letter_words}
use Rattle.rela_cert.proofs.LetterLaws.{covered, has_below}
use Rattle.rela_cert.proofs.MappedWords.{mapped, mapped_back, pushed}

module _ (E : Type 0) (l : Lettering) (are : AreLetterBlocks l) (paths : Paths) where
  abbrev m : Scene
  m = scene_of l paths

  abbrev f : ℕ → ℕ
  f = read_by l.blocks

  -- words that reach the same places reach the same states
  lead_on : (x : PathTerm) (a : Automaton) → IsMade E l paths x a → (v w : List ℕ) → Agree (At m x) v w → (q : ℕ) → Leads l.blocks a q v → Leads l.blocks a q w
  unfolding IsMade
  lead_on x a made v w agree q leads =
      let at = (made.placed.reached q v).0 leads in
      (made.placed.reached q w).1 (record { place = at.place; entry = at.entry; reached = (agree at.place).0 at.reached })

  pub same_states : (x : PathTerm) (a : Automaton) → IsMade E l paths x a → (v w : List ℕ) → Agree (At m x) v w → ReachSame a (map f v) (map f w)
  same_states x a made v w agree q =
      (lead_on x a made v w agree q, lead_on x a made w v (λ p. ((agree p).1, (agree p).0)) q)

  pub same_one : (x : PathTerm) (a : Automaton) → IsMade E l paths x a → (v w : List ℕ) → AgreeOnAll m (x ∷ []) v w → SameStates (a ∷ []) (map f v) (map f w)
  same_one x a made v w agree =
      All-cons (λ b. ReachSame b (map f v) (map f w)) a []
      (same_states x a made v w (All-head (λ y. Agree (At m y) v w) x [] agree)) (All-nil (λ b. ReachSame b (map f v) (map f w)))

  pub same_two : (x y : PathTerm) (a b : Automaton) → IsMade E l paths x a → IsMade E l paths y b → (v w : List ℕ) → AgreeOnAll m (x ∷ y ∷ []) v w
      → SameStates (a ∷ b ∷ []) (map f v) (map f w)
  same_two x y a b one two v w agree =
      All-cons (λ c. ReachSame c (map f v) (map f w)) a (b ∷ [])
      (same_states x a one v w (All-head (λ z. Agree (At m z) v w) x (y ∷ []) agree))
      (same_one y b two v w (All-tail (λ z. Agree (At m z) v w) x (y ∷ []) agree))

  -- ---- closed lists

  module _ (n : ℕ) (over : List Bool) (holds : HoldsJust l.blocks (λ s. s < n) over) where
    -- a letter of the set is that of a symbol below n
    pub symbol_for : (k : ℕ) → has over k ≡ true → (s : ℕ) × (s < n) × (f s ≡ k)
    symbol_for k among =
        let less : k < length over = has_below over k among in
        let found = covered l.blocks are.partition k (omega (arith, less, holds.size)) in
        (found.0, (holds.holds found.0).0 (subst (λ (j : ℕ). has over j ≡ true) (sym found.1) among), found.1)

    closed_by : (terms : List PathTerm) (automata : List Automaton) → ((v w : List ℕ) → AgreeOnAll m terms v w → SameStates automata (map f v) (map f w))
        → (words : List (List ℕ)) → Closed m n terms words → IsClosed over automata (letter_words l.blocks words)
    closed_by terms automata carry words closed word k listed among =
        let before = mapped_back (map f) words word listed in
        let letter = symbol_for k among in
        let found = closed before.0 letter.0 before.1 letter.1 in
        let next : map f (before.0 ++ letter.0 ∷ []) ≡ word ++ k ∷ [] =
        pushed f before.0 letter.0 ∙ ap (λ (u : List ℕ). u ++ f letter.0 ∷ []) before.2 ∙ ap (λ (j : ℕ). word ++ j ∷ []) letter.2 in (
          map f found.0,
          mapped (map f) words found.0 found.1,
          subst (SameStates automata (map f found.0)) next (carry found.0 (before.0 ++ letter.0 ∷ []) found.2),
        )

    pub closed_one : (x : PathTerm) (a : Automaton) → IsMade E l paths x a → (words : List (List ℕ)) → Closed m n (x ∷ []) words
        → IsClosed over (a ∷ []) (letter_words l.blocks words)
    closed_one x a made words closed = closed_by (x ∷ []) (a ∷ []) (same_one x a made) words closed

    pub closed_two : (x y : PathTerm) (a b : Automaton) → IsMade E l paths x a → IsMade E l paths y b → (words : List (List ℕ)) → Closed m n (x ∷ y ∷ []) words
        → IsClosed over (a ∷ b ∷ []) (letter_words l.blocks words)
    closed_two x y a b one two words closed = closed_by (x ∷ y ∷ []) (a ∷ b ∷ []) (same_two x y a b one two) words closed

-- ---- and the other way round, where the states tell places apart

module _ (l : Lettering) (paths : Paths) where
  abbrev here : Scene
  here = scene_of l paths

  abbrev letter : ℕ → ℕ
  letter = read_by l.blocks

  -- words that reach the same states reach the same places
  reach_on : (x : PathTerm) (a : Automaton) → IsMade (Unit {0}) l paths x a → (v w : List ℕ) → ReachSame a (map letter v) (map letter w) → (p : Place) → At here x p v → At here x p w
  unfolding IsMade
  reach_on x a made v w same p at =
      let exact = made.exact tt in
      let entry = exact.entered p v at in
      exact.only p entry.0 w entry.1
      ((same entry.0).0 ((made.placed.reached entry.0 v).1 (record { place = p; entry = entry.1; reached = at })))

  agree_one : (x : PathTerm) (a : Automaton) → IsMade (Unit {0}) l paths x a → (v w : List ℕ) → ReachSame a (map letter v) (map letter w) → Agree (At here x) v w
  agree_one x a made v w same p = (reach_on x a made v w same p, reach_on x a made w v (λ q. ((same q).1, (same q).0)) p)

  pub agree_part : (x : PathTerm) (a : Automaton) → IsMade (Unit {0}) l paths x a → (v w : List ℕ) → SameStates (a ∷ []) (map letter v) (map letter w) → AgreeOnAll here (x ∷ []) v w
  agree_part x a made v w same =
      All-cons (λ y. Agree (At here y) v w) x []
      (agree_one x a made v w (All-head (λ b. ReachSame b (map letter v) (map letter w)) a [] same)) (All-nil (λ y. Agree (At here y) v w))

  pub agree_images : (x y : PathTerm) (a b : Automaton) → IsMade (Unit {0}) l paths x a → IsMade (Unit {0}) l paths y b → (v w : List ℕ)
      → SameStates (a ∷ b ∷ []) (map letter v) (map letter w) → AgreeOnAll here (x ∷ y ∷ []) v w
  agree_images x y a b one two v w same =
      All-cons (λ z. Agree (At here z) v w) x (y ∷ [])
      (agree_one x a one v w (All-head (λ c. ReachSame c (map letter v) (map letter w)) a (b ∷ []) same))
      (agree_part y b two v w (All-tail (λ c. ReachSame c (map letter v) (map letter w)) a (b ∷ []) same))

  -- lists that are closed by the letters are so by symbols
  module _ (n : ℕ) (over : List Bool) (holds : HoldsJust l.blocks (λ s. s < n) over) where
    pub closed_back : (x : PathTerm) (a : Automaton) → IsMade (Unit {0}) l paths x a → (words : List (List ℕ)) → IsClosed over (a ∷ []) (letter_words l.blocks words)
        → Closed here n (x ∷ []) words
    closed_back x a made words closed word s listed below =
        let found = closed (map letter word) (letter s) (mapped (map letter) words word listed) ((holds.holds s).1 below) in
        let source = mapped_back (map letter) words found.0 found.1 in
        let same : SameStates (a ∷ []) (map letter source.0) (map letter (word ++ s ∷ [])) =
        subst (SameStates (a ∷ []) (map letter source.0)) (sym (pushed letter word s))
        (subst (λ (v : List ℕ). SameStates (a ∷ []) v (map letter word ++ letter s ∷ [])) (sym source.2) found.2) in
        (source.0, source.1, agree_part x a made source.0 (word ++ s ∷ []) same)
