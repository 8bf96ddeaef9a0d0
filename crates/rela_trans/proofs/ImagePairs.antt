-- What an automaton and a transducer reach where the one's words are what the other reads: the automaton stands as
-- the transducer of its words with themselves.
use Rattle.std.proofs.Common.{◌≡◌, ℕ, ◌↔◌, List, [], ◌∷◌, get_or, map, refl, sym, ap, ◌∙◌, subst}
use Rattle.rela_pairs.specs.Reachable.{MoreThan}
use Rattle.rela_pairs.specs.declared.pair.Pair.{Pair}
use Rattle.rela_nfa.specs.Automaton.{Automaton, states}
use Rattle.rela_nfa.specs.Runs.{Reach, Accepts}
use Rattle.rela_trans.specs.Composition.{Covers, ReachThrough, AreReachedThrough, IsComposition}
use Rattle.rela_trans.specs.Images.{ReachFrom, AreReachedFrom, IsImage}
use Rattle.rela_trans.specs.Machine.{Machine, machine_states}
use Rattle.rela_trans.specs.Runs.{ReachR, Relates}

pub map_same : (w : List ℕ) → map (λ k. k) w ≡ w
map_same [] = refl
map_same (k ∷ w) = ap (λ l. k ∷ l) (map_same w)

module _ (a : Automaton) (t source : Machine) (reached : (read : ℕ → ℕ) (q : ℕ) (u v : List ℕ) → ReachR read source q u v ↔ (Reach a q (map read u) × (v ≡ u))) where
  from_through : (read : ℕ → ℕ) (x : Pair) (u w : List ℕ) → ReachThrough read source t x u w → ReachFrom read a t x w
  from_through read x u w (middle, one, two) =
      let both = (reached read x.left u middle).0 one in
      (u, both.0, subst (λ m. ReachR read t x.right m w) both.1 two)

  through_from : (read : ℕ → ℕ) (x : Pair) (w : List ℕ) → ReachFrom read a t x w → (u : List ℕ) × ReachThrough read source t x u w
  through_from read x w (u, one, two) = (u, (u, (reached read x.left u u).1 (one, refl), two))

  reached_from : (x : Pair) → AreReachedThrough source t x → AreReachedFrom a t x
  reached_from x (u, w, through) =
      let found = from_through (λ k. k) x u w through in
      (found.0, w, subst (Reach a x.left) (map_same found.0) found.1, found.2)

  reached_through : (x : Pair) → AreReachedFrom a t x → AreReachedThrough source t x
  reached_through x (u, w, one, two) =
      let found = through_from (λ k. k) x w (u, subst (Reach a x.left) (sym (map_same u)) one, two) in
      (found.0, w, found.1)

  -- so there are as many of the one as of the other
  pub more_from : (limit : ℕ) → MoreThan limit (AreReachedThrough source t) → MoreThan limit (AreReachedFrom a t)
  more_from limit more = record { some = more.some; distinct = more.distinct; each = λ k d below. reached_from (get_or more.some k d) (more.each k d below); count = more.count }

  pub more_through_source : (limit : ℕ) → MoreThan limit (AreReachedFrom a t) → MoreThan limit (AreReachedThrough source t)
  more_through_source limit more = record { some = more.some; distinct = more.distinct; each = λ k d below. reached_through (get_or more.some k d) (more.each k d below); count = more.count }

  module _ (r : Machine) (image : Automaton) (letters : source.letters ≡ a.letters) (same : r.letters ≡ source.letters) (count : states image ≡ machine_states r) where
    covers_source : (read : ℕ → ℕ) → Covers read a.letters → Covers read source.letters
    covers_source read covers = subst (Covers read) (sym letters) covers

    covers_result : (read : ℕ → ℕ) → Covers read a.letters → Covers read r.letters
    covers_result read covers = subst (Covers read) (sym (same ∙ letters)) covers

    pub image_of : (pairs : List Pair) → IsComposition source t pairs r
        → ((read : ℕ → ℕ) → Covers read r.letters → (q : ℕ) (v : List ℕ) → Reach image q (map read v) ↔ ((u : List ℕ) × ReachR read r q u v)) → IsImage a t pairs image
    image_of pairs composed written = record {
      count = composed.count ∙ sym count;
      distinct = composed.distinct;
      together = λ x among. reached_from x (composed.together x among);
      all = λ x here. composed.all x (reached_through x here);
      reached = λ read covers k x at v. (
        λ reach.
            let u = (written read (covers_result read covers) k v).0 reach in
            from_through read x u.0 v ((composed.reached read (covers_source read covers) k x at u.0 v).0 u.1),
        λ from.
            let u = through_from read x v from in
            (written read (covers_result read covers) k v).1 (u.0, (composed.reached read (covers_source read covers) k x at u.0 v).1 u.1),
      );
    }

    pub image_language : ((read : ℕ → ℕ) (u v : List ℕ) → Relates read source u v ↔ (Accepts a (map read u) × (v ≡ u)))
        → ((read : ℕ → ℕ) → Covers read source.letters → (u w : List ℕ) → Relates read r u w ↔ ((middle : List ℕ) × Relates read source u middle × Relates read t middle w))
        → ((read : ℕ → ℕ) → Covers read r.letters → (v : List ℕ) → Accepts image (map read v) ↔ ((u : List ℕ) × Relates read r u v))
        → (read : ℕ → ℕ) → Covers read a.letters → (v : List ℕ) → Accepts image (map read v) ↔ ((u : List ℕ) × Accepts a (map read u) × Relates read t u v)
    image_language identical composed written read covers v = (
      λ accepted.
          let found = (written read (covers_result read covers) v).0 accepted in
          let parts = (composed read (covers_source read covers) found.0 v).0 found.1 in
          let both = (identical read found.0 parts.0).0 parts.1 in
          (found.0, both.0, subst (λ m. Relates read t m v) both.1 parts.2),
      λ (u, accepted, related). (written read (covers_result read covers) v).1 (u, (composed read (covers_source read covers) u v).1 (u, (identical read u u).1 (accepted, refl), related)),
    )
