-- The states of a product as they are built, one after another.
use Rattle.std.proofs.Common.{◌≡◌, ℕ, ◌+◌, ◌<◌, ◌≤◌, ◌↔◌, Bool, false, IsTrue, List, [], ◌∷◌, ◌++◌, length, get_or, Option, None, Some, refl, sym, ap, ◌∙◌, subst, inl, inr, arith, length-append}
use Rattle.std.specs.List.{Contains, slice_get}
use Rattle.std.proofs.lemmas.Bool.{cases_lt}
use Rattle.std.proofs.lemmas.List.{get_or_append_left, get_or_default, get_or_push, length_push}
use Rattle.std.proofs.lemmas.List.Elements.{Contains-get_or}
use Rattle.std.proofs.lemmas.Option.{slice_get-get_or, slice_get_within}
use Rattle.rela_letter_nfa.specs.LetterAutomaton.{IsFinal, IsLetterAutomaton, LetterAutomaton, edges_of, from_parts, silents_of, states, with_state}
use Rattle.rela_letter_nfa.specs.Runs.{HasStep}
use Rattle.rela_letter_nfa.specs.declared.edge.LetterEdge.{LetterEdge}
use Rattle.rela_nfa.specs.Meeting.{pair_of}
use Rattle.rela_pairs.specs.declared.pair.Pair.{Pair}
use Rattle.rela_trans.specs.Machine.{Machine, IsMachine, machine_states, IsFinal as IsFinalMachine}
use Rattle.rela_letter_image.specs.Coarse.{coarse_of}
use Rattle.rela_letter_image.specs.Growth.{AddsState, Growth, HasEnd, Stand, with_parts}
use Rattle.rela_letter_image.specs.Needs.{Told}
use Rattle.rela_letter_image.specs.Product.{IsProduct}
use Rattle.rela_letter_image.specs.Steps.{step_to, steps_from}
use Rattle.rela_letter_image.proofs.GrownSteps.{stand_longer, still_at}
use Rattle.rela_letter_image.proofs.StepsGo.{goes_listed, steps_go}

-- a pair that had its number before has it where more were found
was_at : (pairs more : List Pair) (q : ℕ) (y : Pair) → q < length pairs → slice_get (pairs ++ more) q ≡ Some y → slice_get pairs q ≡ Some y
was_at pairs more q y below at =
    let here = slice_get-get_or pairs q y below in
    here ∙ sym (still_at pairs more q (get_or pairs q y) here) ∙ at

module _ (coarse : List ℕ) (a : LetterAutomaton) (t : Machine) where
  -- a state stands for its pair: it is final where both states are, and has the steps from the pair
  pub record StandsFor (told : Told) (pairs : List Pair) (x : Pair) (final : Bool) (silents : List ℕ) (edges : List LetterEdge) : Type 0 where
    pub is_final : IsTrue final ↔ (IsFinal a x.left × IsFinalMachine t x.right)
    pub stand : Stand told pairs (steps_from coarse a t x) silents edges

  -- the states that were built stand for the first pairs
  pub record AreBuilt (g : Growth) : Type 0 where
    pub lefts : g.shape.lefts ≡ states a
    pub rights : g.shape.rights ≡ machine_states t
    pub first : slice_get g.pairs 0 ≡ Some (pair_of a.start t.start)
    pub no_silents : g.parts.next_silents ≡ []
    pub no_edges : g.parts.next_edges ≡ []
    pub each_silents : length g.parts.silents ≡ length g.parts.finals
    pub each_edges : length g.parts.edges ≡ length g.parts.finals
    pub count : length g.parts.finals ≤ length g.pairs
    pub built : (p : ℕ) (x : Pair) → p < length g.parts.finals → slice_get g.pairs p ≡ Some x
        → StandsFor g.told g.pairs x (get_or g.parts.finals p false) (get_or g.parts.silents p []) (get_or g.parts.edges p [])

  module _ (g h : Growth) (x : Pair) (so_far : AreBuilt g) (at : slice_get g.pairs (length g.parts.finals) ≡ Some x) (adds : AddsState coarse a t x g h) where
    abbrev mid : Growth
    mid = adds.between

    abbrev more : List Pair
    more = adds.grows.found.0

    longer : mid.pairs ≡ g.pairs ++ more
    longer = adds.grows.found.1

    number_below : length g.parts.finals < length g.pairs
    number_below = slice_get_within g.pairs (length g.parts.finals) x at

    -- the state that was added
    added : StandsFor g.told mid.pairs x adds.is_final mid.parts.next_silents mid.parts.next_edges
    added = record {
      is_final = adds.final;
      stand =
          subst (λ l. Stand g.told mid.pairs (steps_from coarse a t x) mid.parts.next_silents l) (sym (adds.grows.added.3 ∙ ap (λ l. l ++ adds.grows.added.1) so_far.no_edges))
          (subst (λ l. Stand g.told mid.pairs (steps_from coarse a t x) l adds.grows.added.1) (sym (adds.grows.added.2 ∙ ap (λ l. l ++ adds.grows.added.0) so_far.no_silents)) adds.grows.added.4);
    }

    -- a state from before
    earlier : (p : ℕ) (y : Pair) → p < length g.parts.finals → slice_get mid.pairs p ≡ Some y
        → StandsFor g.told mid.pairs y (get_or g.parts.finals p false) (get_or g.parts.silents p []) (get_or g.parts.edges p [])
    earlier p y below there =
        let before = so_far.built p y below (was_at g.pairs more p y (omega (arith, number_below)) (ap (λ (l : List Pair). slice_get l p) (sym longer) ∙ there)) in
        record {
          is_final = before.is_final;
          stand =
              subst (λ l. Stand g.told l (steps_from coarse a t y) (get_or g.parts.silents p []) (get_or g.parts.edges p [])) (sym longer)
              (stand_longer g.told g.pairs more (steps_from coarse a t y) (get_or g.parts.silents p []) (get_or g.parts.edges p []) before.stand);
        }

    -- what is told of letters stays
    pub told_kept : h.told ≡ g.told
    told_kept = ap (λ (v : Growth). v.told) adds.ended ∙ adds.grows.told

    -- what stands at a place of a list with one more
    before_push : {A : Type 0} (xs old : List A) (z d : A) (p n : ℕ) → xs ≡ old → length old ≡ n → p < n → get_or (xs ++ z ∷ []) p d ≡ get_or old p d
    before_push xs old z d p n same size below = ap (λ l. get_or (l ++ z ∷ []) p d) same ∙ get_or_append_left old (z ∷ []) d p (omega (arith, size))

    at_push : {A : Type 0} (xs old : List A) (z d : A) (p n : ℕ) → xs ≡ old → length old ≡ n → p ≡ n → get_or (xs ++ z ∷ []) p d ≡ z
    at_push xs old z d p n same size here = get_or_push xs z d p (ap (λ l. length l) same ∙ size ∙ sym here)

    stands_as : {final other : Bool} {silents ends : List ℕ} {edges arcs : List LetterEdge} (y : Pair) → other ≡ final → ends ≡ silents → arcs ≡ edges → StandsFor g.told mid.pairs y final silents edges
        → StandsFor g.told mid.pairs y other ends arcs
    stands_as {final} {other} {silents} {ends} {edges} {arcs} y one two three stands =
        subst (λ l. StandsFor g.told mid.pairs y other ends l) (sym three)
        (subst (λ l. StandsFor g.told mid.pairs y other l edges) (sym two) (subst (λ b. StandsFor g.told mid.pairs y b silents edges) (sym one) stands))

    abbrev ended : Growth
    ended = with_parts mid (with_state mid.parts adds.is_final)

    each : (p : ℕ) (y : Pair) → p < length ended.parts.finals → slice_get ended.pairs p ≡ Some y
        → StandsFor g.told ended.pairs y (get_or ended.parts.finals p false) (get_or ended.parts.silents p []) (get_or ended.parts.edges p [])
    each p y below there = elim (cases_lt p (length g.parts.finals)) [
      | inl less ↦
          stands_as y (before_push mid.parts.finals g.parts.finals adds.is_final false p (length g.parts.finals) adds.grows.finals refl less)
          (before_push mid.parts.silents g.parts.silents mid.parts.next_silents [] p (length g.parts.finals) adds.grows.silents so_far.each_silents less)
          (before_push mid.parts.edges g.parts.edges mid.parts.next_edges [] p (length g.parts.finals) adds.grows.edges so_far.each_edges less) (earlier p y less there)
      | inr past ↦
          let size : length ended.parts.finals ≡ length g.parts.finals + 1 = length_push mid.parts.finals adds.is_final ∙ ap (λ (l : List Bool). length l + 1) adds.grows.finals in
          let here : p ≡ length g.parts.finals = omega arith in
          let same : Some x ≡ Some y =
          sym (ap (λ (l : List Pair). slice_get l p) longer ∙ ap (slice_get (g.pairs ++ more)) here ∙ still_at g.pairs more (length g.parts.finals) x at) ∙ there in
          let is : x ≡ y = cc in
          stands_as y (at_push mid.parts.finals g.parts.finals adds.is_final false p (length g.parts.finals) adds.grows.finals refl here)
          (at_push mid.parts.silents g.parts.silents mid.parts.next_silents [] p (length g.parts.finals) adds.grows.silents so_far.each_silents here)
          (at_push mid.parts.edges g.parts.edges mid.parts.next_edges [] p (length g.parts.finals) adds.grows.edges so_far.each_edges here)
          (subst (λ z. StandsFor g.told mid.pairs z adds.is_final mid.parts.next_silents mid.parts.next_edges) is added)
    ]

    pushed : {A B : Type 0} (xs old : List A) (z : A) (ys was : List B) (w : B) → xs ≡ old → ys ≡ was → length old ≡ length was → length (xs ++ z ∷ []) ≡ length (ys ++ w ∷ [])
    pushed xs old z ys was w one two same =
        length_push xs z ∙ ap (λ l. length l + 1) one ∙ ap (λ n. n + 1) same ∙ sym (length_push ys w ∙ ap (λ l. length l + 1) two)

    -- one more state
    pub built_more : AreBuilt h
    built_more = subst AreBuilt (sym adds.ended) (record {
      lefts = ap (λ s. s.lefts) adds.grows.shape ∙ so_far.lefts;
      rights = ap (λ s. s.rights) adds.grows.shape ∙ so_far.rights;
      first = ap (λ (l : List Pair). slice_get l 0) longer ∙ still_at g.pairs more 0 (pair_of a.start t.start) so_far.first;
      no_silents = refl;
      no_edges = refl;
      each_silents = pushed mid.parts.silents g.parts.silents mid.parts.next_silents mid.parts.finals g.parts.finals adds.is_final adds.grows.silents adds.grows.finals so_far.each_silents;
      each_edges = pushed mid.parts.edges g.parts.edges mid.parts.next_edges mid.parts.finals g.parts.finals adds.is_final adds.grows.edges adds.grows.finals so_far.each_edges;
      count = count;
      built = λ p y below there. subst (λ d. StandsFor d ended.pairs y (get_or ended.parts.finals p false) (get_or ended.parts.silents p []) (get_or ended.parts.edges p [])) (sym adds.grows.told) (each p y below there);
    })
      where
        count : length ended.parts.finals ≤ length mid.pairs
        count =
            omega (
              arith,
              number_below,
              length_push mid.parts.finals adds.is_final ∙ ap (λ (l : List Bool). length l + 1) adds.grows.finals,
              ap (λ (l : List Pair). length l) longer,
              length-append g.pairs more,
            )

  -- ---- when all are built

  module _ (g : Growth) (all : AreBuilt g) (done : length g.pairs ≤ length g.parts.finals) where
    abbrev image : LetterAutomaton
    image = from_parts g.parts 0

    step_end : (p q : ℕ) (letter : Option ℕ) → HasStep image p letter q → HasEnd (silents_of image p) (edges_of image p) letter q
    step_end p q None step = step
    step_end p q (Some k) step = step

    end_step : (p q : ℕ) (letter : Option ℕ) → HasEnd (silents_of image p) (edges_of image p) letter q → HasStep image p letter q
    end_step p q None end = end
    end_step p q (Some k) end = end

    stands : (p : ℕ) (x : Pair) → slice_get g.pairs p ≡ Some x → StandsFor g.told g.pairs x (get_or g.parts.finals p false) (silents_of image p) (edges_of image p)
    stands p x at = all.built p x (omega (arith, slice_get_within g.pairs p x at)) at

    pub all_product : IsMachine t → IsProduct (coarse_of t.letters coarse) a t g.told g.pairs image
    all_product ok = record {
      starts = all.first;
      final = λ p x at. (stands p x at).is_final;
      only = λ p q x letter at step.
          let found = (stands p x at).stand.only letter q (step_end p q letter step) in
          (found.0, found.1, steps_go coarse a t ok x (step_to letter found.0) found.2);
      all = λ p x y letter at goes live.
          let found = (stands p x at).stand.all letter y (goes_listed coarse a t ok x letter y goes) live in
          (found.0, found.1, end_step p found.0 letter found.2);
    }

    -- the pair of a number
    abbrev pair_at : ℕ → Pair
    pair_at p = get_or g.pairs p (pair_of 0 0)

    end_below : (p q : ℕ) (letter : Option ℕ) → p < length g.parts.finals → HasEnd (silents_of image p) (edges_of image p) letter q → q < length g.parts.finals
    end_below p q letter below end =
        let at = slice_get-get_or g.pairs p (pair_of 0 0) (omega (arith, all.count, below)) in
        let found = (stands p (pair_at p) at).stand.only letter q end in
        omega (arith, slice_get_within g.pairs q found.0 found.1)

    pub all_ok : IsLetterAutomaton image
    all_ok = record {
      starts = omega (arith, slice_get_within g.pairs 0 (pair_of a.start t.start) all.first);
      each_silents = all.each_silents;
      each_edges = all.each_edges;
      silents = λ p d below j e within.
          let same = get_or_default g.parts.silents p d [] below in
          let here : Contains (silents_of image p) (get_or (get_or g.parts.silents p d) j e) = subst (λ l. Contains l (get_or (get_or g.parts.silents p d) j e)) same (Contains-get_or (get_or g.parts.silents p d) j e within) in
          end_below p (get_or (get_or g.parts.silents p d) j e) None (omega (arith, all.each_silents)) here;
      edges = λ p d below j e within.
          let same = get_or_default g.parts.edges p d [] below in
          let edge : LetterEdge = get_or (get_or g.parts.edges p d) j e in
          let here : Contains (edges_of image p) edge = subst (λ l. Contains l edge) same (Contains-get_or (get_or g.parts.edges p d) j e within) in
          end_below p edge.to (Some edge.letter) (omega (arith, all.each_edges)) here;
    }
