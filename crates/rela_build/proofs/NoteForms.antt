-- Notes of the complements in a term, and why a term isn't built, by the form of the term.
use Rattle.std.proofs.Common.{◌≡◌, ℕ, ◌+◌, ◌⊎◌, List, [], ◌∷◌, ◌++◌, length, sym, ap, ◌∙◌, subst, inl, inr, Bool}
use Rattle.rela_nfa.specs.Automaton.{Automaton}
use Rattle.rela_pairs.specs.declared.errors.BuildError.{BuildError}
use Rattle.rela_pairs.specs.declared.errors.BuildError.TheVariants as B
use Rattle.rela_rir.specs.Complements.{complemented_parts, complemented_parts_r}
use Rattle.rela_rir.specs.Limit.{ReachedInside, ReachedInsideR}
use Rattle.rela_rir.specs.Places.{Scene}
use Rattle.rela_rir.specs.declared.term.PathTerm.{PathTerm}
use Rattle.rela_rir.specs.declared.term.RelTerm.{RelTerm}
use Rattle.rela_rir.specs.declared.term.PathTerm.TheVariants as P
use Rattle.rela_rir.specs.declared.term.RelTerm.TheVariants as R
use Rattle.rela_build.specs.Lettering.{Lettering}
use Rattle.rela_build.specs.Made.{IsMade}
use Rattle.rela_build.specs.Notes.{Notes, Noted, NotedR, NotedTwo, NotedTwoR, Refuses, Explains, Stopped, StoppedR, StoppedTwo, StoppedTwoR, NotesOne, RefusesOne}
use Rattle.rela_build.specs.PathSets.{Paths, scene_of}
use Rattle.rela_build.specs.Stops.{stop_of}
use Rattle.rela_build.specs.declared.stop.Stop.{Stop}
use Rattle.rela_build.specs.declared.stop.Stop.TheVariants.{Memory}
use Rattle.rela_build.proofs.Insides.{in_union, in_concat, in_star, in_meet, in_complement, in_image, in_identity_r, in_product_r, in_union_r, in_concat_r, in_star_r, in_compose_r, parts_none, parts_empty, parts_class, parts_one, parts_pre, parts_post, parts_union, parts_concat, parts_star, parts_meet, parts_complement, parts_image, parts_identity_r, parts_product_r, parts_union_r, parts_concat_r, parts_star_r, parts_compose_r}
use Rattle.rela_build.proofs.NotesInOrder.{no_notes, notes_alike, notes_both, notes_more, notes_after, refused_alike, refused_first, refused_second, refused_whole, explains_more, explains_memory, explains_limit}

module _ {N : Type 0} (answers : ℕ → Automaton → List Bool → N → Type 0) (E : Type 0) (l : Lettering) (paths : Paths) (old new : List N) where
  pub note_none : (t : PathTerm) → t ≡ P.None → new ≡ old → Noted answers E l paths t old new
  unfolding Noted
  note_none t is same = subst (λ (xs : List N). Notes answers E l paths (complemented_parts t) old xs) (sym same) (no_notes answers E l paths (complemented_parts t) old (ap complemented_parts is ∙ parts_none))

  pub note_empty : (t : PathTerm) → t ≡ P.Empty → new ≡ old → Noted answers E l paths t old new
  unfolding Noted
  note_empty t is same = subst (λ (xs : List N). Notes answers E l paths (complemented_parts t) old xs) (sym same) (no_notes answers E l paths (complemented_parts t) old (ap complemented_parts is ∙ parts_empty))

  pub note_class : (t : PathTerm) (k : ℕ) → t ≡ (P.Class k) → new ≡ old → Noted answers E l paths t old new
  unfolding Noted
  note_class t k is same = subst (λ (xs : List N). Notes answers E l paths (complemented_parts t) old xs) (sym same) (no_notes answers E l paths (complemented_parts t) old (ap complemented_parts is ∙ parts_class k))

  pub note_one : (t : PathTerm) (s : ℕ) → t ≡ (P.One s) → new ≡ old → Noted answers E l paths t old new
  unfolding Noted
  note_one t s is same = subst (λ (xs : List N). Notes answers E l paths (complemented_parts t) old xs) (sym same) (no_notes answers E l paths (complemented_parts t) old (ap complemented_parts is ∙ parts_one s))

  pub note_pre : (t : PathTerm) → t ≡ P.Pre → new ≡ old → Noted answers E l paths t old new
  unfolding Noted
  note_pre t is same = subst (λ (xs : List N). Notes answers E l paths (complemented_parts t) old xs) (sym same) (no_notes answers E l paths (complemented_parts t) old (ap complemented_parts is ∙ parts_pre))

  pub note_post : (t : PathTerm) → t ≡ P.Post → new ≡ old → Noted answers E l paths t old new
  unfolding Noted
  note_post t is same = subst (λ (xs : List N). Notes answers E l paths (complemented_parts t) old xs) (sym same) (no_notes answers E l paths (complemented_parts t) old (ap complemented_parts is ∙ parts_post))

  pub note_union : (t : PathTerm) (x y : PathTerm) → t ≡ P.Union x y → NotedTwo answers E l paths x y old new → Noted answers E l paths t old new
  unfolding Noted NotedTwo
  note_union t x y is notes = notes_alike answers E l paths (complemented_parts t) (complemented_parts x ++ complemented_parts y) old new (ap complemented_parts is ∙ parts_union x y) notes

  pub note_concat : (t : PathTerm) (x y : PathTerm) → t ≡ P.Concat x y → NotedTwo answers E l paths x y old new → Noted answers E l paths t old new
  unfolding Noted NotedTwo
  note_concat t x y is notes = notes_alike answers E l paths (complemented_parts t) (complemented_parts x ++ complemented_parts y) old new (ap complemented_parts is ∙ parts_concat x y) notes

  pub note_star : (t : PathTerm) (x : PathTerm) → t ≡ P.Star x → Noted answers E l paths x old new → Noted answers E l paths t old new
  unfolding Noted
  note_star t x is notes = notes_alike answers E l paths (complemented_parts t) (complemented_parts x) old new (ap complemented_parts is ∙ parts_star x) notes

  pub note_meet : (t : PathTerm) (x y : PathTerm) → t ≡ P.Meet x y → NotedTwo answers E l paths x y old new → Noted answers E l paths t old new
  unfolding Noted NotedTwo
  note_meet t x y is notes = notes_alike answers E l paths (complemented_parts t) (complemented_parts x ++ complemented_parts y) old new (ap complemented_parts is ∙ parts_meet x y) notes

  pub note_identity_r : (t : RelTerm) (x : PathTerm) → t ≡ R.Identity x → Noted answers E l paths x old new → NotedR answers E l paths t old new
  unfolding NotedR Noted
  note_identity_r t x is notes = notes_alike answers E l paths (complemented_parts_r t) (complemented_parts x) old new (ap complemented_parts_r is ∙ parts_identity_r x) notes

  pub note_product_r : (t : RelTerm) (x y : PathTerm) → t ≡ R.Product x y → NotedTwo answers E l paths x y old new → NotedR answers E l paths t old new
  unfolding NotedR NotedTwo
  note_product_r t x y is notes = notes_alike answers E l paths (complemented_parts_r t) (complemented_parts x ++ complemented_parts y) old new (ap complemented_parts_r is ∙ parts_product_r x y) notes

  pub note_union_r : (t : RelTerm) (x y : RelTerm) → t ≡ R.Union x y → NotedTwoR answers E l paths x y old new → NotedR answers E l paths t old new
  unfolding NotedR NotedTwoR
  note_union_r t x y is notes = notes_alike answers E l paths (complemented_parts_r t) (complemented_parts_r x ++ complemented_parts_r y) old new (ap complemented_parts_r is ∙ parts_union_r x y) notes

  pub note_concat_r : (t : RelTerm) (x y : RelTerm) → t ≡ R.Concat x y → NotedTwoR answers E l paths x y old new → NotedR answers E l paths t old new
  unfolding NotedR NotedTwoR
  note_concat_r t x y is notes = notes_alike answers E l paths (complemented_parts_r t) (complemented_parts_r x ++ complemented_parts_r y) old new (ap complemented_parts_r is ∙ parts_concat_r x y) notes

  pub note_star_r : (t : RelTerm) (x : RelTerm) → t ≡ R.Star x → NotedR answers E l paths x old new → NotedR answers E l paths t old new
  unfolding NotedR
  note_star_r t x is notes = notes_alike answers E l paths (complemented_parts_r t) (complemented_parts_r x) old new (ap complemented_parts_r is ∙ parts_star_r x) notes

  pub note_compose_r : (t : RelTerm) (x y : RelTerm) → t ≡ R.Compose x y → NotedTwoR answers E l paths x y old new → NotedR answers E l paths t old new
  unfolding NotedR NotedTwoR
  note_compose_r t x y is notes = notes_alike answers E l paths (complemented_parts_r t) (complemented_parts_r x ++ complemented_parts_r y) old new (ap complemented_parts_r is ∙ parts_compose_r x y) notes

  pub note_two : (x y : PathTerm) (mid : List N) → Noted answers E l paths x old mid → Noted answers E l paths y mid new → NotedTwo answers E l paths x y old new
  unfolding Noted NotedTwo
  note_two x y mid one two = notes_both answers E l paths (complemented_parts x) (complemented_parts y) old mid new one two

  pub note_two_r : (x y : RelTerm) (mid : List N) → NotedR answers E l paths x old mid → NotedR answers E l paths y mid new → NotedTwoR answers E l paths x y old new
  unfolding NotedR NotedTwoR
  note_two_r x y mid one two = notes_both answers E l paths (complemented_parts_r x) (complemented_parts_r y) old mid new one two

  pub note_image : (t x : PathTerm) (r : RelTerm) (mid : List N) → t ≡ P.Image x r → Noted answers E l paths x old mid → NotedR answers E l paths r mid new → Noted answers E l paths t old new
  unfolding Noted NotedR
  note_image t x r mid is one two =
      notes_alike answers E l paths (complemented_parts t) (complemented_parts x ++ complemented_parts_r r) old new (ap complemented_parts is ∙ parts_image x r)
      (notes_both answers E l paths (complemented_parts x) (complemented_parts_r r) old mid new one two)

  pub note_complement : (t x : PathTerm) (a : Automaton) (mid : List N) → t ≡ P.Complement x → IsMade E l paths x a → Noted answers E l paths x old mid
      → NotesOne answers l a mid new → Noted answers E l paths t old new
  unfolding Noted
  note_complement t x a mid is made one more =
      notes_alike answers E l paths (complemented_parts t) (complemented_parts x ++ x ∷ []) old new (ap complemented_parts is ∙ parts_complement x)
      (notes_more answers E l paths (complemented_parts x) x a old mid new made one more)

-- how many notes there are after those of a term
pub after_term : {N : Type 0} (answers : ℕ → Automaton → List Bool → N → Type 0) (E : Type 0) (l : Lettering) (paths : Paths) (old new : List N) (x : PathTerm)
    → Noted answers E l paths x old new → length new ≡ length old + length (complemented_parts x)
unfolding Noted
after_term answers E l paths old new x notes = notes_after answers E l paths (complemented_parts x) old new notes

pub after_term_r : {N : Type 0} (answers : ℕ → Automaton → List Bool → N → Type 0) (E : Type 0) (l : Lettering) (paths : Paths) (old new : List N) (x : RelTerm)
    → NotedR answers E l paths x old new → length new ≡ length old + length (complemented_parts_r x)
unfolding NotedR
after_term_r answers E l paths old new x notes = notes_after answers E l paths (complemented_parts_r x) old new notes

module _ (refuses : ℕ → Automaton → List Bool → Type 0) (E : Type 0) (l : Lettering) (paths : Paths) (limit first : ℕ) where
  abbrev m : Scene
  m = scene_of l paths

  abbrev F : List PathTerm → ℕ → Type 0
  F parts n = Refuses refuses E l paths limit first parts n

  -- from what is inside a part to what is inside the whole
  through : (A B : Type 0) (parts other : List PathTerm) → (A → B) → parts ≡ other → (e : Stop) → Explains A (F other) e → Explains B (F parts) e
  through A B parts other f same = explains_more A B (F other) (F parts) f (λ n. refused_alike refuses E l paths first parts other n same)

  pub stop_union : (t : PathTerm) (x y : PathTerm) (e : Stop) → t ≡ P.Union x y → StoppedTwo refuses E l paths limit first x y e → Stopped refuses E l paths limit first t e
  unfolding Stopped StoppedTwo
  stop_union t x y e is =
      through (ReachedInside m (limit + 1) x ⊎ ReachedInside m (limit + 1) y) (ReachedInside m (limit + 1) t) (complemented_parts t) (complemented_parts x ++ complemented_parts y)
      (λ some. subst (λ (u : PathTerm). ReachedInside m (limit + 1) u) (sym is) (in_union m (limit + 1) x y some)) (ap complemented_parts is ∙ parts_union x y) e

  pub stop_concat : (t : PathTerm) (x y : PathTerm) (e : Stop) → t ≡ P.Concat x y → StoppedTwo refuses E l paths limit first x y e → Stopped refuses E l paths limit first t e
  unfolding Stopped StoppedTwo
  stop_concat t x y e is =
      through (ReachedInside m (limit + 1) x ⊎ ReachedInside m (limit + 1) y) (ReachedInside m (limit + 1) t) (complemented_parts t) (complemented_parts x ++ complemented_parts y)
      (λ some. subst (λ (u : PathTerm). ReachedInside m (limit + 1) u) (sym is) (in_concat m (limit + 1) x y some)) (ap complemented_parts is ∙ parts_concat x y) e

  pub stop_star : (t : PathTerm) (x : PathTerm) (e : Stop) → t ≡ P.Star x → Stopped refuses E l paths limit first x e → Stopped refuses E l paths limit first t e
  unfolding Stopped
  stop_star t x e is =
      through (ReachedInside m (limit + 1) x) (ReachedInside m (limit + 1) t) (complemented_parts t) (complemented_parts x)
      (λ some. subst (λ (u : PathTerm). ReachedInside m (limit + 1) u) (sym is) (in_star m (limit + 1) x some)) (ap complemented_parts is ∙ parts_star x) e

  pub stop_meet : (t : PathTerm) (x y : PathTerm) (e : Stop) → t ≡ P.Meet x y → StoppedTwo refuses E l paths limit first x y e → Stopped refuses E l paths limit first t e
  unfolding Stopped StoppedTwo
  stop_meet t x y e is =
      through (ReachedInside m (limit + 1) x ⊎ ReachedInside m (limit + 1) y) (ReachedInside m (limit + 1) t) (complemented_parts t) (complemented_parts x ++ complemented_parts y)
      (λ some. subst (λ (u : PathTerm). ReachedInside m (limit + 1) u) (sym is) (in_meet m (limit + 1) x y some)) (ap complemented_parts is ∙ parts_meet x y) e

  pub stop_identity_r : (t : RelTerm) (x : PathTerm) (e : Stop) → t ≡ R.Identity x → Stopped refuses E l paths limit first x e → StoppedR refuses E l paths limit first t e
  unfolding StoppedR Stopped
  stop_identity_r t x e is =
      through (ReachedInside m (limit + 1) x) (ReachedInsideR m (limit + 1) t) (complemented_parts_r t) (complemented_parts x)
      (λ some. subst (λ (u : RelTerm). ReachedInsideR m (limit + 1) u) (sym is) (in_identity_r m (limit + 1) x some)) (ap complemented_parts_r is ∙ parts_identity_r x) e

  pub stop_product_r : (t : RelTerm) (x y : PathTerm) (e : Stop) → t ≡ R.Product x y → StoppedTwo refuses E l paths limit first x y e → StoppedR refuses E l paths limit first t e
  unfolding StoppedR StoppedTwo
  stop_product_r t x y e is =
      through (ReachedInside m (limit + 1) x ⊎ ReachedInside m (limit + 1) y) (ReachedInsideR m (limit + 1) t) (complemented_parts_r t) (complemented_parts x ++ complemented_parts y)
      (λ some. subst (λ (u : RelTerm). ReachedInsideR m (limit + 1) u) (sym is) (in_product_r m (limit + 1) x y some)) (ap complemented_parts_r is ∙ parts_product_r x y) e

  pub stop_union_r : (t : RelTerm) (x y : RelTerm) (e : Stop) → t ≡ R.Union x y → StoppedTwoR refuses E l paths limit first x y e → StoppedR refuses E l paths limit first t e
  unfolding StoppedR StoppedTwoR
  stop_union_r t x y e is =
      through (ReachedInsideR m (limit + 1) x ⊎ ReachedInsideR m (limit + 1) y) (ReachedInsideR m (limit + 1) t) (complemented_parts_r t) (complemented_parts_r x ++ complemented_parts_r y)
      (λ some. subst (λ (u : RelTerm). ReachedInsideR m (limit + 1) u) (sym is) (in_union_r m (limit + 1) x y some)) (ap complemented_parts_r is ∙ parts_union_r x y) e

  pub stop_concat_r : (t : RelTerm) (x y : RelTerm) (e : Stop) → t ≡ R.Concat x y → StoppedTwoR refuses E l paths limit first x y e → StoppedR refuses E l paths limit first t e
  unfolding StoppedR StoppedTwoR
  stop_concat_r t x y e is =
      through (ReachedInsideR m (limit + 1) x ⊎ ReachedInsideR m (limit + 1) y) (ReachedInsideR m (limit + 1) t) (complemented_parts_r t) (complemented_parts_r x ++ complemented_parts_r y)
      (λ some. subst (λ (u : RelTerm). ReachedInsideR m (limit + 1) u) (sym is) (in_concat_r m (limit + 1) x y some)) (ap complemented_parts_r is ∙ parts_concat_r x y) e

  pub stop_star_r : (t : RelTerm) (x : RelTerm) (e : Stop) → t ≡ R.Star x → StoppedR refuses E l paths limit first x e → StoppedR refuses E l paths limit first t e
  unfolding StoppedR
  stop_star_r t x e is =
      through (ReachedInsideR m (limit + 1) x) (ReachedInsideR m (limit + 1) t) (complemented_parts_r t) (complemented_parts_r x)
      (λ some. subst (λ (u : RelTerm). ReachedInsideR m (limit + 1) u) (sym is) (in_star_r m (limit + 1) x some)) (ap complemented_parts_r is ∙ parts_star_r x) e

  pub stop_compose_r : (t : RelTerm) (x y : RelTerm) (e : Stop) → t ≡ R.Compose x y → StoppedTwoR refuses E l paths limit first x y e → StoppedR refuses E l paths limit first t e
  unfolding StoppedR StoppedTwoR
  stop_compose_r t x y e is =
      through (ReachedInsideR m (limit + 1) x ⊎ ReachedInsideR m (limit + 1) y) (ReachedInsideR m (limit + 1) t) (complemented_parts_r t) (complemented_parts_r x ++ complemented_parts_r y)
      (λ some. subst (λ (u : RelTerm). ReachedInsideR m (limit + 1) u) (sym is) (in_compose_r m (limit + 1) x y some)) (ap complemented_parts_r is ∙ parts_compose_r x y) e

  -- in the part of a complement, and in the complement itself
  pub stop_complement : (t x : PathTerm) (e : Stop) → t ≡ P.Complement x → Stopped refuses E l paths limit first x e → Stopped refuses E l paths limit first t e
  unfolding Stopped
  stop_complement t x e is stopped =
      through (ReachedInside m (limit + 1) x) (ReachedInside m (limit + 1) t) (complemented_parts t) (complemented_parts x ++ x ∷ [])
      (λ some. subst (λ (u : PathTerm). ReachedInside m (limit + 1) u) (sym is) (in_complement m (limit + 1) x some)) (ap complemented_parts is ∙ parts_complement x) e
      (explains_more (ReachedInside m (limit + 1) x) (ReachedInside m (limit + 1) x) (F (complemented_parts x)) (F (complemented_parts x ++ x ∷ [])) (λ some. some)
      (λ n r. refused_first refuses E l paths first (complemented_parts x) (x ∷ []) n r) e stopped)

  pub stop_refused : (t x : PathTerm) (a : Automaton) (next : ℕ) (e : Stop) → t ≡ P.Complement x → next ≡ first + length (complemented_parts x) → IsMade E l paths x a
      → Explains ⊥ (RefusesOne refuses l a next) e → Stopped refuses E l paths limit first t e
  unfolding Stopped
  stop_refused t x a next e is at made stopped =
      explains_more ⊥ (ReachedInside m (limit + 1) t) (RefusesOne refuses l a next) (F (complemented_parts t)) (λ none. absurd none)
      (λ n r. refused_alike refuses E l paths first (complemented_parts t) (complemented_parts x ++ x ∷ []) n (ap complemented_parts is ∙ parts_complement x)
      (refused_whole refuses E l paths first next (complemented_parts x) x a n at made r)) e stopped

  -- in the set or the relation of an image
  pub stop_image_set : (t x : PathTerm) (r : RelTerm) (e : Stop) → t ≡ P.Image x r → Stopped refuses E l paths limit first x e → Stopped refuses E l paths limit first t e
  unfolding Stopped
  stop_image_set t x r e is stopped =
      through (ReachedInside m (limit + 1) x) (ReachedInside m (limit + 1) t) (complemented_parts t) (complemented_parts x ++ complemented_parts_r r)
      (λ some. subst (λ (u : PathTerm). ReachedInside m (limit + 1) u) (sym is) (in_image m (limit + 1) x r (inl some))) (ap complemented_parts is ∙ parts_image x r) e
      (explains_more (ReachedInside m (limit + 1) x) (ReachedInside m (limit + 1) x) (F (complemented_parts x)) (F (complemented_parts x ++ complemented_parts_r r)) (λ some. some)
      (λ n f. refused_first refuses E l paths first (complemented_parts x) (complemented_parts_r r) n f) e stopped)

  pub stop_image_pairs : (t x : PathTerm) (r : RelTerm) (next : ℕ) (e : Stop) → t ≡ P.Image x r → next ≡ first + length (complemented_parts x)
      → StoppedR refuses E l paths limit next r e → Stopped refuses E l paths limit first t e
  unfolding Stopped StoppedR
  stop_image_pairs t x r next e is at stopped =
      through (ReachedInsideR m (limit + 1) r) (ReachedInside m (limit + 1) t) (complemented_parts t) (complemented_parts x ++ complemented_parts_r r)
      (λ some. subst (λ (u : PathTerm). ReachedInside m (limit + 1) u) (sym is) (in_image m (limit + 1) x r (inr some))) (ap complemented_parts is ∙ parts_image x r) e
      (explains_more (ReachedInsideR m (limit + 1) r) (ReachedInsideR m (limit + 1) r) (Refuses refuses E l paths limit next (complemented_parts_r r)) (F (complemented_parts x ++ complemented_parts_r r))
      (λ some. some) (λ n f. refused_second refuses E l paths first next (complemented_parts x) (complemented_parts_r r) n at f) e stopped)

  -- at a term itself
  pub stop_limit : (t : PathTerm) (b : BuildError) (e : Stop) → e ≡ stop_of b → (b ≡ B.Limit → ReachedInside m (limit + 1) t) → Stopped refuses E l paths limit first t e
  unfolding Stopped
  stop_limit t b e is passed = explains_limit (ReachedInside m (limit + 1) t) (F (complemented_parts t)) b e is passed

  pub stop_limit_r : (t : RelTerm) (b : BuildError) (e : Stop) → e ≡ stop_of b → (b ≡ B.Limit → ReachedInsideR m (limit + 1) t) → StoppedR refuses E l paths limit first t e
  unfolding StoppedR
  stop_limit_r t b e is passed = explains_limit (ReachedInsideR m (limit + 1) t) (F (complemented_parts_r t)) b e is passed

  pub stop_memory : (t : PathTerm) (e : Stop) → e ≡ Memory → Stopped refuses E l paths limit first t e
  unfolding Stopped
  stop_memory t e is = explains_memory (ReachedInside m (limit + 1) t) (F (complemented_parts t)) e is

  pub stop_memory_r : (t : RelTerm) (e : Stop) → e ≡ Memory → StoppedR refuses E l paths limit first t e
  unfolding StoppedR
  stop_memory_r t e is = explains_memory (ReachedInsideR m (limit + 1) t) (F (complemented_parts_r t)) e is

  -- in the first or the second of two terms
  pub stop_first : (x y : PathTerm) (e : Stop) → Stopped refuses E l paths limit first x e → StoppedTwo refuses E l paths limit first x y e
  unfolding Stopped StoppedTwo
  stop_first x y e stopped =
      explains_more (ReachedInside m (limit + 1) x) (ReachedInside m (limit + 1) x ⊎ ReachedInside m (limit + 1) y) (F (complemented_parts x)) (F (complemented_parts x ++ complemented_parts y)) inl
      (λ n r. refused_first refuses E l paths first (complemented_parts x) (complemented_parts y) n r) e stopped

  pub stop_second : (x y : PathTerm) (next : ℕ) (e : Stop) → next ≡ first + length (complemented_parts x) → Stopped refuses E l paths limit next y e → StoppedTwo refuses E l paths limit first x y e
  unfolding Stopped StoppedTwo
  stop_second x y next e at stopped =
      explains_more (ReachedInside m (limit + 1) y) (ReachedInside m (limit + 1) x ⊎ ReachedInside m (limit + 1) y) (Refuses refuses E l paths limit next (complemented_parts y)) (F (complemented_parts x ++ complemented_parts y)) inr
      (λ n r. refused_second refuses E l paths first next (complemented_parts x) (complemented_parts y) n at r) e stopped

  pub stop_first_r : (x y : RelTerm) (e : Stop) → StoppedR refuses E l paths limit first x e → StoppedTwoR refuses E l paths limit first x y e
  unfolding StoppedR StoppedTwoR
  stop_first_r x y e stopped =
      explains_more (ReachedInsideR m (limit + 1) x) (ReachedInsideR m (limit + 1) x ⊎ ReachedInsideR m (limit + 1) y) (F (complemented_parts_r x)) (F (complemented_parts_r x ++ complemented_parts_r y)) inl
      (λ n r. refused_first refuses E l paths first (complemented_parts_r x) (complemented_parts_r y) n r) e stopped

  pub stop_second_r : (x y : RelTerm) (next : ℕ) (e : Stop) → next ≡ first + length (complemented_parts_r x) → StoppedR refuses E l paths limit next y e → StoppedTwoR refuses E l paths limit first x y e
  unfolding StoppedR StoppedTwoR
  stop_second_r x y next e at stopped =
      explains_more (ReachedInsideR m (limit + 1) y) (ReachedInsideR m (limit + 1) x ⊎ ReachedInsideR m (limit + 1) y) (Refuses refuses E l paths limit next (complemented_parts_r y)) (F (complemented_parts_r x ++ complemented_parts_r y)) inr
      (λ n r. refused_second refuses E l paths first next (complemented_parts_r x) (complemented_parts_r y) n at r) e stopped
