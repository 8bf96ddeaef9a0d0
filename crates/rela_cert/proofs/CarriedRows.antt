-- What is found of a check on the paths of one flow holds for paths with the same words and the same arrivals.
use Rattle.std.proofs.Common.{◌≡◌, ℕ, ◌↔◌, Bool, true, false, Option, None, List, [], ◌∷◌, ◌++◌, get_or, length, inl, inr, refl, sym, ap, subst}
use Rattle.rela_blocks.specs.RowBlocks.{symbols_of}
use Rattle.rela_blocks.specs.Scenes.{after_image, before_image, paths_of, scene}
use Rattle.rela_build.specs.PathSets.{Paths}
use Rattle.rela_certfile.specs.Listed.{words_of}
use Rattle.rela_certfile.specs.declared.rows.ListedRow.{ListedRow}
use Rattle.rela_graph.specs.Outline.{Outline, outline_of}
use Rattle.rela_graph.specs.Paths as graph
use Rattle.rela_graph.specs.Topology.{Topology}
use Rattle.rela_names.specs.declared.level.Level.{Level}
use Rattle.rela_plan.specs.Alike.{look_of}
use Rattle.rela_rir.specs.Agreement.{AgreeOn, SamePaths, SameWords}
use Rattle.rela_rir.specs.Limit.{Licensed}
use Rattle.rela_rir.specs.Places.{Agree, At, Place, Scene}
use Rattle.rela_rir.specs.Words.{ImageOf, Relation, WordSet}
use Rattle.rela_rir.specs.declared.term.PathTerm.{PathTerm}
use Rattle.rela_snapshot.specs.declared.pairing.FlowPair.{FlowPair}
use Rattle.rela_translate.specs.Checked.{Checked}
use Rattle.rela_translate.specs.Verdict.{AreMet, Meets, Offending, Offends}
use Rattle.rela_translate.specs.Zones.{After, Before, path_symbols}
use Rattle.rela_cert.specs.Certified.{AreBlocksMade, IsExcused}
use Rattle.rela_cert.specs.Closed.{AgreeOnAll, AreFirst, Closed}
use Rattle.rela_cert.specs.Rows.{images_of}

-- ---- words

image_words : (X Y : WordSet) (R : Relation) → SameWords X Y → SameWords (ImageOf X R) (ImageOf Y R)
image_words X Y R same v = (
  λ i. record { source = i.source; in_set = (same i.source).0 i.in_set; related = i.related },
  λ i. record { source = i.source; in_set = (same i.source).1 i.in_set; related = i.related },
)

met : (at_most : Bool) (X X' Y Y' : WordSet) → SameWords X X' → SameWords Y Y' → AreMet at_most X Y → AreMet at_most X' Y'
met false X X' Y Y' x y are = λ w. (λ h. (y w).0 ((are w).0 ((x w).1 h)), λ h. (x w).0 ((are w).1 ((y w).1 h)))
met true X X' Y Y' x y are = λ w h. (x w).0 (are w ((y w).1 h))

offends : (at_most : Bool) (X X' Y Y' : WordSet) → SameWords X X' → SameWords Y Y' → (w : List ℕ) → Offends at_most X Y w → Offends at_most X' Y' w
offends false X X' Y Y' x y w o = elim o [
  | inl one ↦ inl ((x w).0 one.0, λ h. one.1 ((y w).1 h))
  | inr one ↦ inr ((λ h. one.0 ((x w).1 h)), (y w).0 one.1)
]
offends true X X' Y Y' x y w o = ((y w).0 o.0, λ h. o.1 ((x w).1 h))

module _ (check : Checked) (n : ℕ) (p q : Paths) (same : SamePaths (scene check n p) (scene check n q)) where
  abbrev m : Scene
  m = scene check n p

  abbrev m' : Scene
  m' = scene check n q

  before_words : SameWords (ImageOf p.pre (Before check.classes n check.body)) (ImageOf q.pre (Before check.classes n check.body))
  before_words = image_words p.pre q.pre (Before check.classes n check.body) same.pre

  after_words : SameWords (ImageOf p.post (After check.classes n check.body)) (ImageOf q.post (After check.classes n check.body))
  after_words = image_words p.post q.post (After check.classes n check.body) same.post

  pub carried_met : Meets check n p.pre p.post → Meets check n q.pre q.post
  carried_met = met check.at_most (ImageOf p.pre (Before check.classes n check.body)) (ImageOf q.pre (Before check.classes n check.body))
      (ImageOf p.post (After check.classes n check.body)) (ImageOf q.post (After check.classes n check.body)) before_words after_words

  carried_offending : (w : List ℕ) → Offending check n p.pre p.post w → Offending check n q.pre q.post w
  carried_offending = offends check.at_most (ImageOf p.pre (Before check.classes n check.body)) (ImageOf q.pre (Before check.classes n check.body))
      (ImageOf p.post (After check.classes n check.body)) (ImageOf q.post (After check.classes n check.body)) before_words after_words

  -- the two scenes agree on each term
  agree : (x : PathTerm) → AgreeOn m m' x
  agree x = record { symbols = record { setting = record { classes = refl; path_symbols = refl }; markers = refl }; paths = inr same }

  -- ---- places

  module _ (places : (x : PathTerm) → AgreeOn m m' x → (place : Place) (w : List ℕ) → At m x place w ↔ At m' x place w) where
    there : (x : PathTerm) (v w : List ℕ) → Agree (At m x) v w → Agree (At m' x) v w
    there x v w both place = (
      λ h. (places x (agree x) place w).0 ((both place).0 ((places x (agree x) place v).1 h)),
      λ h. (places x (agree x) place v).0 ((both place).1 ((places x (agree x) place w).1 h)),
    )

    back : (x : PathTerm) (v w : List ℕ) → Agree (At m' x) v w → Agree (At m x) v w
    back x v w both place = (
      λ h. (places x (agree x) place w).1 ((both place).0 ((places x (agree x) place v).0 h)),
      λ h. (places x (agree x) place v).1 ((both place).1 ((places x (agree x) place w).0 h)),
    )

    all_there : (terms : List PathTerm) (v w : List ℕ) → AgreeOnAll m terms v w → AgreeOnAll m' terms v w
    all_there terms v w all = λ i d below. there (get_or terms i d) v w (all i d below)

    all_back : (terms : List PathTerm) (v w : List ℕ) → AgreeOnAll m' terms v w → AgreeOnAll m terms v w
    all_back terms v w all = λ i d below. back (get_or terms i d) v w (all i d below)

    closed : (bound : ℕ) (terms : List PathTerm) (words : List (List ℕ)) → Closed m bound terms words → Closed m' bound terms words
    closed bound terms words is word s listed below =
        let found = is word s listed below in
        (found.0, found.1, all_there terms found.0 (word ++ s ∷ []) found.2)

    first : (bound : ℕ) (terms : List PathTerm) (words : List (List ℕ)) → AreFirst m bound terms words → AreFirst m' bound terms words
    first bound terms words are = record {
      ascending = are.ascending;
      first = λ i d below.
          let word : List ℕ = get_or words i d in
          let is = are.first i d below in
          record {
            member = (is.member.0, all_there terms word word is.member.1);
            least = λ u like. is.least u (like.0, all_back terms u word like.1);
          };
    }

    pub carried_made : (row : ListedRow) → AreBlocksMade n row check p → AreBlocksMade n row check q
    carried_made row made = record {
      complements = λ k part at.
          let is = made.complements k part at in
          (closed (path_symbols n) (part ∷ []) _ is.0, first (path_symbols n) (part ∷ []) _ is.1);
      images = closed (symbols_of check n) (images_of check n) (words_of row.images) made.images;
      first = first (symbols_of check n) (images_of check n) (words_of row.images) made.first;
    }

  -- ---- rows that are left out

  pub carried_excused : (limit : ℕ)
      → ((before after : PathTerm) → AgreeOn m m' before → AgreeOn m m' after → (last : Option (List ℕ)) (k : ℕ) → Licensed m last before after k ↔ Licensed m' last before after k)
      → IsExcused n limit check p → IsExcused n limit check q
  carried_excused limit licensed excused = elim excused [
    | inl (word, is) ↦ inl (word, carried_offending word is)
    | inr may ↦ inr ((licensed (before_image check n) (after_image check n) (agree (before_image check n)) (agree (after_image check n)) None limit).0 may)
  ]

-- ---- flows that look the same

-- what is so of two graphs that look the same at a level
pub record LookAlike (level : Level) (g h : Topology) : Type 0 where
  pub paths : outline_of level g ≡ outline_of level h → (names : List (List ℕ)) (w : List ℕ) → graph.Paths g level names w ↔ graph.Paths h level names w
  pub arrives : outline_of level g ≡ outline_of level h → (n : ℕ) (w : List ℕ)
      → graph.Arrives g (graph.locations g level) n w ↔ graph.Arrives h (graph.locations h level) n w
  pub undelivered : outline_of level g ≡ outline_of level h → (names : List (List ℕ)) (w : List ℕ) → graph.Undelivered g level names w ↔ graph.Undelivered h level names w

pub same_paths : (check : Checked) (level : Level) → level ≡ check.level → (names : List (List ℕ)) (pair other : FlowPair)
    → LookAlike level other.before pair.before → LookAlike level other.after pair.after → look_of check.level pair ≡ look_of check.level other
    → SamePaths (scene check (length names) (paths_of check.level names other.before other.after)) (scene check (length names) (paths_of check.level names pair.before pair.after))
same_paths check level is names pair other before after looks =
    let first : LookAlike check.level other.before pair.before = subst (λ (l : Level). LookAlike l other.before pair.before) is before in
    let second : LookAlike check.level other.after pair.after = subst (λ (l : Level). LookAlike l other.after pair.after) is after in
    let one : outline_of check.level other.before ≡ outline_of check.level pair.before = sym (ap (λ (look : Outline × Outline). look.0) looks) in
    let two : outline_of check.level other.after ≡ outline_of check.level pair.after = sym (ap (λ (look : Outline × Outline). look.1) looks) in
    record {
      pre = first.paths one names;
      post = second.paths two names;
      pre_places = record { at_node = first.arrives one; at_end = first.undelivered one names };
      post_places = record { at_node = second.arrives two; at_end = second.undelivered two names };
    }
