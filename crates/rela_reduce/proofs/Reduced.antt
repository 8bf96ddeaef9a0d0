-- The automaton with silent edges to what its states simulate, by its arrows.
use Rattle.std.proofs.Common.{◌≡◌, ℕ, ◌<◌, ◌⊎◌, ◌↔◌, Bool, true, List, [], ◌∷◌, ◌++◌, length, get_or, map, Option, None, Some, refl, sym, ap, ◌∙◌, subst, inl, inr, arith}
use Rattle.std.specs.List.{All, Contains}
use Rattle.std.specs.Option.{option_map, option_to_list}
use Rattle.std.proofs.lemmas.Bool.{cases_lt}
use Rattle.std.proofs.lemmas.List.{get_or_past, length-map}
use Rattle.std.proofs.lemmas.List.Elements.{All-contains, All-from_get_or}
use Rattle.rela_labels.specs.Letters.{has}
use Rattle.rela_nfa.specs.Automaton.{Automaton, IsAutomaton, IsFinal, IsMove, Move}
use Rattle.rela_nfa.specs.Runs.{Step, StepIn, HasStep, Follow, spelled, Reach, Accepts}
use Rattle.rela_reduce.specs.Apart.{AreApart, ReachSame}
use Rattle.rela_reduce.specs.Bits.{HasBit}
use Rattle.rela_reduce.specs.Numbered.{IsPlain, Plain, automaton_of, edges_by, labelled}
use Rattle.rela_reduce.specs.Simulation.{AreClosed, AreWithin, BySilent, GoesAlong, IsAnswered, IsWidened, Simulates, arrows_of}
use Rattle.rela_reduce.specs.declared.arrow.Arrow.{Arrow}
use Rattle.rela_reduce.specs.declared.arrow.Step.{Step as NumberedStep}
use Rattle.rela_reduce.proofs.Labelling.{IsKnown}
use Rattle.rela_reduce.proofs.Lists.{all_from_listed, contains_mapped, list_of_mapped, mapped_contains, none_listed, none_some}
use Rattle.rela_reduce.proofs.Numbering.{arrow_move}
use Rattle.rela_reduce.proofs.Saturating.{RunsTo, follow_append, saturated_accepts, saturated_apart, saturated_more, saturated_same, spelled_append}
use Rattle.rela_reduce.proofs.Stepping.{leads_within}

-- what steps and flags say is so where these are right
pub simulates_of : (labels : List (List Bool)) (n : Plain) (steps : List (List NumberedStep)) (finals : List Bool) (within : List (List Bool)) (relation : List (List ℕ)) → AreClosed n steps finals → AreWithin labels within
    → (p q : ℕ) → GoesAlong n steps finals within relation p q → Simulates labels n relation p q
simulates_of labels n steps finals within relation closed right p q along = record {
  final = λ set. closed.final p (along.final set);
  silent = λ t listed. answer (record { label = None; to = t }) listed;
  labelled = λ k t listed. let found = answer (record { label = Some k; to = t }) listed in (found.step, closed.stepped p found.step found.listed, right k found.step.label found.label, found.simulates);
}
  where
    answer : (arrow : Arrow) → Contains (arrows_of n.arrows q) arrow → IsAnswered within relation p (get_or steps p []) arrow
    answer arrow listed = All-contains (IsAnswered within relation p (get_or steps p [])) (arrows_of n.arrows q) arrow along.answered listed

cases_same : (m n : ℕ) → (m ≡ n) ⊎ (¬ (m ≡ n))
cases_same m n = elim (cases_lt m n) [
  | inl less ↦ inr (λ same. omega arith)
  | inr not_less ↦ elim (cases_lt n m) [ inl more ↦ inr (λ same. omega arith) | inr not_more ↦ inl (let same : m ≡ n = omega arith in same) ]
]

-- the number of a label
number_of : {X Y : Type 0} (f : X → Y) (o : Option X) (y : Y) → option_map f o ≡ Some y → (x : X) × (o ≡ Some x) × (f x ≡ y)
number_of f None y is = absurd (none_some y is)
number_of f (Some x) y is = (x, refl, (let same : f x ≡ y = cc in same))

no_number : {X Y : Type 0} (f : X → Y) (o : Option X) → option_map f o ≡ None → o ≡ None
no_number f None is = refl
no_number f (Some x) is = absurd (none_some (f x) (sym is))

module _ (letters : ℕ) (labels : List (List Bool)) where
  abbrev edge_of : Arrow → Move
  edge_of = labelled labels

  letters_by : ℕ → List Bool
  letters_by k = get_or labels k []

  -- the step of an arrow among some
  abbrev HasArrow : List Arrow → Option ℕ → ℕ → Type 0
  HasArrow arrows None t = Contains arrows (record { label = None; to = t })
  HasArrow arrows (Some letter) t = (k : ℕ) × Contains arrows (record { label = Some k; to = t }) × (has (get_or labels k []) letter ≡ true)

  arrow_in : (arrows : List Arrow) (letter : Option ℕ) (t : ℕ) → StepIn (map edge_of arrows) letter t → HasArrow arrows letter t
  arrow_in arrows None t listed =
      let (arrow, is, among) = mapped_contains edge_of arrows (record { label = None; to = t }) listed in
      let silent : arrow.label ≡ None = no_number (λ (k : ℕ). get_or labels k []) arrow.label (ap (λ (m : Move). m.label) is) in
      subst (Contains arrows) (ap (λ (l : Option ℕ). record { label = l; to = arrow.to }) silent ∙ ap (λ (m : Move). record { label = None; to = m.to }) is) among
  arrow_in arrows (Some letter) t (set, listed, in_set) =
      let (arrow, is, among) = mapped_contains edge_of arrows (record { label = Some set; to = t }) listed in
      let (k, label, letters_are) = number_of (λ (k : ℕ). get_or labels k []) arrow.label set (ap (λ (m : Move). m.label) is) in (
        k,
        subst (Contains arrows) (ap (λ (l : Option ℕ). record { label = l; to = arrow.to }) label ∙ ap (λ (m : Move). record { label = Some k; to = m.to }) is) among,
        ap (λ (s : List Bool). has s letter) letters_are ∙ in_set,
      )

  in_arrow : (arrows : List Arrow) (letter : Option ℕ) (t : ℕ) → HasArrow arrows letter t → StepIn (map edge_of arrows) letter t
  in_arrow arrows None t listed = contains_mapped edge_of arrows (record { label = None; to = t }) listed
  in_arrow arrows (Some letter) t (k, listed, in_label) = (get_or labels k [], contains_mapped edge_of arrows (record { label = Some k; to = t }) listed, in_label)

  module _ (n : Plain) where
    abbrev whole : Automaton
    whole = automaton_of letters labels n

    arrow_at : (q : ℕ) (letter : Option ℕ) (t : ℕ) → HasStep whole q letter t → HasArrow (arrows_of n.arrows q) letter t
    arrow_at q letter t step = arrow_in (arrows_of n.arrows q) letter t (subst (λ (ms : List Move). StepIn ms letter t) (list_of_mapped edge_of n.arrows q) step)

    step_at : (q : ℕ) (letter : Option ℕ) (t : ℕ) → HasArrow (arrows_of n.arrows q) letter t → HasStep whole q letter t
    step_at q letter t listed = subst (λ (ms : List Move). StepIn ms letter t) (sym (list_of_mapped edge_of n.arrows q)) (in_arrow (arrows_of n.arrows q) letter t listed)

    silent_run : (path : List ℕ) (p q : ℕ) → BySilent n.arrows p path q → (steps : List Step) × Follow whole p steps q × (spelled steps ≡ [])
    silent_run [] p q here = ([], here, refl)
    silent_run (r ∷ path) p q (listed, rest) =
        let (steps, follows, spells) = silent_run path r q rest in (record { letter = None; to = r } ∷ steps, (step_at p None r listed, follows), spells)

  no_arrow : (letter : Option ℕ) (t : ℕ) → HasArrow [] letter t → ⊥
  no_arrow None t listed = none_listed (record { label = None; to = t }) listed
  no_arrow (Some letter) t (k, listed, in_label) = none_listed (record { label = Some k; to = t }) listed

  module _ (n : Plain) (ok : IsPlain n) (lists : List (List Arrow)) (relation : List (List ℕ)) (each : length lists ≡ length n.finals)
      (widened : IsWidened relation (length n.finals) n.arrows lists)
      (simulation : (p q : ℕ) → p < length n.finals → q < length n.finals → HasBit relation p q → Simulates labels n relation p q) where
    abbrev a : Automaton
    a = automaton_of letters labels n

    abbrev r : Automaton
    r = automaton_of letters labels (record n { arrows = lists })

    abbrev M : ℕ → ℕ → Type 0
    M p q = (p < length n.finals) × (q < length n.finals) × HasBit relation p q

    state_of : (p t : ℕ) (letter : Option ℕ) → HasArrow (arrows_of n.arrows p) letter t → p < length n.finals
    state_of p t letter listed = elim (cases_lt p (length n.finals)) [
      | inl within ↦ within
      | inr past ↦ absurd (no_arrow letter t (subst (λ (l : List Arrow). HasArrow l letter t) (get_or_past n.arrows p [] (let same = ok.each in omega arith)) listed))
    ]

    ends_in : (p t : ℕ) (letter : Option ℕ) → HasArrow (arrows_of n.arrows p) letter t → t < length n.finals
    ends_in p t None listed = (leads_within n ok p (record { label = None; to = t }) listed).leads
    ends_in p t (Some letter) (k, listed, in_label) = (leads_within n ok p (record { label = Some k; to = t }) listed).leads

    into : (p q : ℕ) (letter : Option ℕ) → HasStep a p letter q → HasStep r p letter q
    into p q letter step = step_at (record n { arrows = lists }) p letter q (by letter (arrow_at n p letter q step)) where
      by : (k : Option ℕ) → HasArrow (arrows_of n.arrows p) k q → HasArrow (arrows_of lists p) k q
      by None listed = (widened.lowered p).own (record { label = None; to = q }) listed
      by (Some j) (k, listed, in_label) = (k, (widened.lowered p).own (record { label = Some k; to = q }) listed, in_label)

    from : (p q : ℕ) (letter : Option ℕ) → HasStep r p letter q → HasStep a p letter q ⊎ ((letter ≡ None) × M p q)
    from p q letter step = elim (cases_lt p (length n.finals)) [
      | inl within ↦ by letter within (arrow_at (record n { arrows = lists }) p letter q step)
      | inr past ↦
          absurd (no_arrow letter q (subst (λ (l : List Arrow). HasArrow l letter q) (get_or_past lists p [] (let same = each in omega arith)) (arrow_at (record n { arrows = lists }) p letter q step)))
    ]
      where
        by : (k : Option ℕ) → p < length n.finals → HasArrow (arrows_of lists p) k q → HasStep a p k q ⊎ ((k ≡ None) × M p q)
        by None within listed = elim ((widened.lowered p).added (record { label = None; to = q }) listed) [
          | inl own ↦ inl (step_at n p None q own)
          | inr low ↦ inr (refl, (within, low.state, low.simulated))
        ]
        by (Some j) within (k, listed, in_label) = elim ((widened.lowered p).added (record { label = Some k; to = q }) listed) [
          | inl own ↦ inl (step_at n p (Some j) q (k, own, in_label))
          | inr low ↦ absurd (none_some k (sym low.silent))
        ]

    lowers : (p q : ℕ) → M p q → (steps : List Step) × Follow r p steps q × (spelled steps ≡ [])
    lowers p q (p_in, q_in, set) = let (path, leads) = widened.leads p q p_in q_in set in silent_run (record n { arrows = lists }) path p q leads

    simulates : (p q t : ℕ) (letter : Option ℕ) → M p q → HasStep a q letter t → RunsTo a p (option_to_list letter) (λ u. M u t)
    simulates p q t letter (p_in, q_in, set) step = by letter (arrow_at n q letter t step) where
      by : (k : Option ℕ) → HasArrow (arrows_of n.arrows q) k t → RunsTo a p (option_to_list k) (λ u. M u t)
      by None listed = (p, [], refl, refl, (p_in, ends_in q t None listed, (simulation p q p_in q_in set).silent t listed))
      by (Some j) (k, listed, in_label) =
          let (own, (c, (path, leads), arrow), within, below) = (simulation p q p_in q_in set).labelled k t listed in
          let (silent, follows, spells) = silent_run n path p c leads in
          let taken : HasArrow (arrows_of n.arrows c) (Some j) own.to = (own.label, arrow, within j in_label) in
          let last : List Step = record { letter = Some j; to = own.to } ∷ [] in (
            own.to,
            silent ++ last,
            follow_append a silent last p c own.to follows (step_at n c (Some j) own.to taken, refl),
            spelled_append silent last ∙ ap (λ (w : List ℕ). w ++ spelled last) spells,
            (ends_in c own.to (Some j) taken, ends_in q t (Some j) (k, listed, in_label), below),
          )

    ends : (p q : ℕ) → M p q → IsFinal a q → RunsTo a p [] (IsFinal a)
    ends p q (p_in, q_in, set) final =
        let (f, (path, leads), final_f) = (simulation p q p_in q_in set).final final in
        let (silent, follows, spells) = silent_run n path p f leads in (f, silent, follows, spells, final_f)

    reduced_more : (q : ℕ) (w : List ℕ) → Reach a q w → Reach r q w
    reduced_more = saturated_more a r M simulates ends refl refl from into lowers

    reduced_same : (v w : List ℕ) → ReachSame a v w → ReachSame r v w
    reduced_same = saturated_same a r M simulates ends refl refl from into lowers

    reduced_apart : (v w : List ℕ) → AreApart r v w → AreApart a v w
    reduced_apart = saturated_apart a r M simulates ends refl refl from into lowers

    reduced_accepts : (w : List ℕ) → Accepts r w ↔ Accepts a w
    reduced_accepts = saturated_accepts a r M simulates ends refl refl from into lowers

    pub reduced_automaton : IsAutomaton a → IsAutomaton r
    reduced_automaton fits = record {
      each = length-map lists (map edge_of) ∙ each;
      starts = fits.starts;
      moves =
          All-from_get_or (All (IsMove letters (length n.finals))) r.edges [] (λ p within.
          let p_list : p < length lists = omega (arith, length-map lists (map edge_of)) in
          let p_in : p < length n.finals = omega (arith, each) in
          let fit : (arrow : Arrow) → Contains (arrows_of lists p) arrow → IsMove letters (length n.finals) (edge_of arrow) =
          λ arrow listed. elim ((widened.lowered p).added arrow listed) [
            | inl own ↦ arrow_move a fits labels n.arrows refl p (let same = ok.each in omega arith) arrow own
            | inr low ↦ record { sized = λ set is. absurd (none_some set (sym (ap (option_map (λ (k : ℕ). get_or labels k [])) low.silent) ∙ is)); leads = low.state }
          ] in
          subst (All (IsMove letters (length n.finals))) (sym (list_of_mapped edge_of lists p))
          (all_from_listed (IsMove letters (length n.finals)) (map edge_of (arrows_of lists p)) (λ move listed.
          let (arrow, is, among) = mapped_contains edge_of (arrows_of lists p) move listed in subst (IsMove letters (length n.finals)) is (fit arrow among))));
    }

    -- labels are numbered as before
    pub reduced_known : All (All (IsKnown n.labels)) lists
    reduced_known =
        All-from_get_or (All (IsKnown n.labels)) lists [] (λ p within. all_from_listed (IsKnown n.labels) (arrows_of lists p) (λ arrow listed. elim ((widened.lowered p).added arrow listed) [
          | inl own ↦ (leads_within n ok p arrow own).known
          | inr low ↦ (λ k is. absurd (none_some k (sym low.silent ∙ is)))
        ]))

-- an automaton with these parts is this one
same_parts : (x : Automaton) (letters start : ℕ) (finals : List Bool) (edges : List (List Move)) → x.letters ≡ letters → x.start ≡ start → x.finals ≡ finals → x.edges ≡ edges
    → x ≡ record { letters = letters; start = start; finals = finals; edges = edges }
same_parts x letters start finals edges l s f e =
    ap (λ (k : ℕ). record { letters = k; start = x.start; finals = x.finals; edges = x.edges }) l
    ∙ ap (λ (k : ℕ). record { letters = letters; start = k; finals = x.finals; edges = x.edges }) s
    ∙ ap (λ (fs : List Bool). record { letters = letters; start = start; finals = fs; edges = x.edges }) f
    ∙ ap (λ (es : List (List Move)). record { letters = letters; start = start; finals = finals; edges = es }) e

-- what is asked of the automaton x that is made of a
pub record Reduces (a x : Automaton) : Type 0 where
  pub language : (w : List ℕ) → Accepts x w ↔ Accepts a w
  pub reached : (q : ℕ) (w : List ℕ) → Reach a q w → Reach x q w
  pub same : (v w : List ℕ) → ReachSame a v w → ReachSame x v w
  pub apart : (v w : List ℕ) → AreApart x v w → AreApart a v w

pub reduces : (a x : Automaton) (labels : List (List Bool)) (n : Plain) → IsPlain n → (lists : List (List Arrow)) (relation : List (List ℕ)) → length lists ≡ length n.finals
    → IsWidened relation (length n.finals) n.arrows lists
    → ((p q : ℕ) → p < length n.finals → q < length n.finals → HasBit relation p q → Simulates labels n relation p q)
    → automaton_of a.letters labels n ≡ a → x.letters ≡ a.letters → x.start ≡ n.start → x.finals ≡ n.finals → x.edges ≡ edges_by labels lists → Reduces a x
reduces a x labels n ok lists relation each widened simulation same l s f e =
    subst (λ b. Reduces b x) same (subst (Reduces (automaton_of a.letters labels n)) (sym (same_parts x a.letters n.start n.finals (edges_by labels lists) l s f e)) (record {
      language = reduced_accepts a.letters labels n ok lists relation each widened simulation;
      reached = reduced_more a.letters labels n ok lists relation each widened simulation;
      same = reduced_same a.letters labels n ok lists relation each widened simulation;
      apart = reduced_apart a.letters labels n ok lists relation each widened simulation;
    }))
