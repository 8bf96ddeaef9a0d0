-- Edges that are put among those out of one set, letter by letter.
use Rattle.std.proofs.Common.{◌≡◌, ℕ, ◌+◌, ◌<◌, ◌⊎◌, ◌||◌, Bool, true, false, List, [], ◌∷◌, ◌++◌, length, get_or, set, Option, None, Some, refl, sym, ap, ◌∙◌, subst, inl, inr, arith}
use Rattle.std.specs.List.{All, Contains}
use Rattle.std.proofs.lemmas.Bool.{cases_eq, cases_lt, false≢true, or_cases}
use Rattle.std.proofs.lemmas.List.{get_or-set_other, get_or-set_same, get_or_append_left, get_or_default, get_or_past, get_or_push, length-set}
use Rattle.std.proofs.lemmas.List.Elements.{All-nil, All-push, All-set, Contains-append_left, Contains-push, Contains-push_cases}
use Rattle.rela_labels.specs.Letters.{has}
use Rattle.rela_nfa.specs.Automaton.{Automaton, IsMove, Move}
use Rattle.rela_nfa.specs.Runs.{StepIn}
use Rattle.rela_closed.specs.Listing.{AreAllEdges, AreEdges, AreFollowed, IsPutIn, takes}
use Rattle.rela_closed.specs.Sets.{Leads}
use Rattle.rela_closed.proofs.Targets.{Contains-nil}

abbrev pub edge_of : List Bool → ℕ → Move
edge_of label to = record { label = Some label; to = to }

or_left : (a b : Bool) → a ≡ true → (a || b) ≡ true
or_left true b e = refl
or_left false b e = absurd (false≢true e)

or_right : (a b : Bool) → b ≡ true → (a || b) ≡ true
or_right true b e = refl
or_right false b e = e

takes_some : (k : ℕ) (label : Option (List Bool)) (to : ℕ) → takes k (record { label = label; to = to }) ≡ true → (s : List Bool) × (label ≡ Some s) × (has s k ≡ true)
takes_some k None to e = absurd (false≢true e)
takes_some k (Some s) to e = (s, refl, e)

same_edge : (s label : List Bool) (t to : ℕ) → edge_of label to ≡ edge_of s t → (label ≡ s) × (to ≡ t)
same_edge s label t to e = (same_some label s (ap (λ (m : Move). m.label) e), ap (λ (m : Move). m.to) e)
  where
    same_some : (x y : List Bool) → Some x ≡ Some y → x ≡ y
    same_some x y e = cc

module _ (label : List Bool) (to : ℕ) (old new : List Move) (put : IsPutIn label to old new) where
  pub put_old : (k t : ℕ) → StepIn old (Some k) t → StepIn new (Some k) t
  put_old k t (s, (j, below, at), in_s) = elim put [
    | inl pushed ↦ (s, subst (λ l. Contains l (edge_of s t)) (sym pushed) (Contains-append_left old (edge_of label to ∷ []) (edge_of s t) (j, below, at)), in_s)
    | inr (i, joined, i_in, is, ends, sized, either) ↦
        let move = edge_of joined to in
        subst (λ l. StepIn l (Some k) t) (sym is) (elim (cases_eq i j) [
          | inl same ↦
              let here : get_or old i (edge_of s t) ≡ edge_of s t = ap (λ n. get_or old n (edge_of s t)) same ∙ at in
              let end : to ≡ t = sym (ends (edge_of s t)) ∙ ap (λ (m : Move). m.to) here in
              let taken : takes k (get_or old i (edge_of s t)) ≡ true = ap (takes k) here ∙ in_s in
              subst (λ n. StepIn (set old i move) (Some k) n) end (
                joined,
                (i, subst (λ n. i < n) (sym (length-set old i move)) i_in, get_or-set_same old i move move i_in),
                either k (edge_of s t) ∙ or_left (takes k (get_or old i (edge_of s t))) (has label k) taken,
              )
          | inr other ↦ (
            s,
            (j, subst (λ n. j < n) (sym (length-set old i move)) below, get_or-set_other old i j move (edge_of s t) (λ e. other (sym e)) ∙ at),
            in_s,
          )
        ])
  ]

  pub put_here : (k : ℕ) → has label k ≡ true → StepIn new (Some k) to
  put_here k in_label = elim put [
    | inl pushed ↦ (label, subst (λ l. Contains l (edge_of label to)) (sym pushed) (Contains-push old (edge_of label to)), in_label)
    | inr (i, joined, i_in, is, ends, sized, either) ↦
        let move = edge_of joined to in
        subst (λ l. StepIn l (Some k) to) (sym is) (
          joined,
          (i, subst (λ n. i < n) (sym (length-set old i move)) i_in, get_or-set_same old i move move i_in),
          either k move ∙ or_right (takes k (get_or old i move)) (has label k) in_label,
        )
  ]

  put_cases : (k t : ℕ) → StepIn new (Some k) t → StepIn old (Some k) t ⊎ ((has label k ≡ true) × (to ≡ t))
  put_cases k t (s, among, in_s) = elim put [
    | inl pushed ↦ elim (Contains-push_cases old (edge_of label to) (edge_of s t) (subst (λ l. Contains l (edge_of s t)) pushed among)) [
      | inl before ↦ inl (s, before, in_s)
      | inr here ↦ let same = same_edge s label t to here in inr (subst (λ l. has l k ≡ true) (sym same.0) in_s, same.1)
    ]
    | inr (i, joined, i_in, is, ends, sized, either) ↦
        let move = edge_of joined to in
        let (j, below, at) = subst (λ l. Contains l (edge_of s t)) is among in
        let j_in : j < length old = subst (λ n. j < n) (length-set old i move) below in
        elim (cases_eq j i) [
          | inl here ↦
              let set_here : edge_of joined to ≡ edge_of s t =
              sym (get_or-set_same old i move (edge_of s t) i_in) ∙ ap (λ n. get_or (set old i move) n (edge_of s t)) (sym here) ∙ at in
              let same = same_edge s joined t to set_here in
              let taken : (takes k (get_or old i move) || has label k) ≡ true = sym (either k move) ∙ subst (λ l. has l k ≡ true) (sym same.0) in_s in
              elim (or_cases (takes k (get_or old i move)) (has label k) taken) [
                | inl before ↦
                    let edge = get_or old i move in
                    let (u, u_is, in_u) = takes_some k edge.label edge.to before in
                    let end : edge.to ≡ t = ends move ∙ same.1 in
                    let whole : edge ≡ edge_of u t = edge_is edge u t u_is end in
                    inl (u, (i, i_in, get_or_default old i (edge_of u t) move i_in ∙ whole), in_u)
                | inr in_label ↦ inr (in_label, same.1)
              ]
          | inr other ↦ inl (s, (j, j_in, sym (get_or-set_other old i j move (edge_of s t) other) ∙ at), in_s)
        ]
  ]
    where
      edge_is : (edge : Move) (u : List Bool) (t : ℕ) → edge.label ≡ Some u → edge.to ≡ t → edge ≡ edge_of u t
      edge_is edge u t one two =
          ap (λ (l : Option (List Bool)). let m : Move = record { label = l; to = edge.to } in m) one ∙ ap (λ (n : ℕ). edge_of u n) two

  put_labelled : ((q : ℕ) → ¬ StepIn old None q) → (q : ℕ) → ¬ StepIn new None q
  put_labelled none q step = elim put [
    | inl pushed ↦ elim (Contains-push_cases old (edge_of label to) (record { label = None; to = q }) (subst (λ l. Contains l (record { label = None; to = q })) pushed step)) [
      | inl before ↦ none q before
      | inr here ↦ no_label label (ap (λ (m : Move). m.label) here)
    ]
    | inr (i, joined, i_in, is, ends, sized, either) ↦
        let silent : Move = record { label = None; to = q } in
        let move = edge_of joined to in
        let (j, below, at) = subst (λ l. Contains l silent) is step in
        let j_in : j < length old = subst (λ n. j < n) (length-set old i move) below in
        elim (cases_eq j i) [
          | inl here ↦
              let set_here : edge_of joined to ≡ silent =
              sym (get_or-set_same old i move silent i_in) ∙ ap (λ n. get_or (set old i move) n silent) (sym here) ∙ at in
              no_label joined (ap (λ (m : Move). m.label) set_here)
          | inr other ↦ none q (j, j_in, sym (get_or-set_other old i j move silent other) ∙ at)
        ]
  ]
    where
      no_label : (s : List Bool) → Some s ≡ None → ⊥
      no_label s e = cc

  put_moves : (size n : ℕ) → length label ≡ size → to < n → All (IsMove size n) old → All (IsMove size n) new
  put_moves size n len below are = elim put [
    | inl pushed ↦ subst (All (IsMove size n)) (sym pushed) (All-push (IsMove size n) old (edge_of label to) are (is_move label len))
    | inr (i, joined, i_in, is, ends, sized, either) ↦ subst (All (IsMove size n)) (sym is) (All-set (IsMove size n) old i (edge_of joined to) (is_move joined (sized ∙ len)) are)
  ]
    where
      same_label : (both x : List Bool) → Some both ≡ Some x → both ≡ x
      same_label both x e = cc

      is_move : (both : List Bool) → length both ≡ size → IsMove size n (edge_of both to)
      is_move both same = record { sized = λ x e. subst (λ s. length s ≡ size) (same_label both x e) same; leads = below }

module _ (over : List Bool) (automata : List Automaton) (table : List (List (List ℕ))) (sets : List (List ℕ)) where
  pub edges_none : AreEdges over automata table sets 0 []
  edges_none = record {
    labelled = λ q step. Contains-nil _ step;
    sound = λ j to step. absurd (Contains-nil _ step.1);
    all = λ j below read. absurd (omega (arith, below));
    moves = All-nil (IsMove (length over) (length table));
  }

  -- a letter by which an edge may be taken, or that isn't in the set
  pub edges_skip : (k : ℕ) (out : List Move) → (has over k ≡ true → (to : ℕ) × StepIn out (Some k) to) → AreEdges over automata table sets k out → AreEdges over automata table sets (k + 1) out
  edges_skip k out here are = record {
    labelled = are.labelled;
    sound = are.sound;
    all = λ j below read. elim (cases_lt j k) [
      | inl earlier ↦ are.all j earlier read
      | inr last ↦ let same : k ≡ j = omega arith in subst (λ n. (to : ℕ) × StepIn out (Some n) to) same (here (subst (λ n. has over n ≡ true) (sym same) read))
    ];
    moves = are.moves;
  }

  -- an edge by some letters more, of which k is one
  pub edges_more : (k to : ℕ) (label : List Bool) (out out' : List Move) → to < length table → ((j : ℕ) → has label j ≡ true → (has over j ≡ true) × Leads automata sets j (get_or table to []))
      → length label ≡ length over → has label k ≡ true → IsPutIn label to out out' → AreEdges over automata table sets k out → AreEdges over automata table sets (k + 1) out'
  edges_more k to label out out' below each len in_label put are = record {
    labelled = put_labelled label to out out' put are.labelled;
    sound = λ j t step. elim (put_cases label to out out' put j t step) [
      | inl before ↦ are.sound j t before
      | inr here ↦
          let (read, leads) = each j here.0 in
          subst (λ n. (has over j ≡ true) × (n < length table) × Leads automata sets j (get_or table n [])) here.1 (read, below, leads)
    ];
    all = λ j j_below j_read. elim (cases_lt j k) [
      | inl earlier ↦ let (t, step) = are.all j earlier j_read in (t, put_old label to out out' put j t step)
      | inr last ↦
          let here : k ≡ j = omega arith in
          (to, subst (λ i. StepIn out' (Some i) to) here (put_here label to out out' put k in_label))
    ];
    moves = put_moves label to out out' put (length over) (length table) len below are.moves;
  }

-- the edges out of one more
pub all_edges_more : (over : List Bool) (automata : List Automaton) (table : List (List (List ℕ))) (n : ℕ) (edges edges' : List (List Move)) (out : List Move) → length edges ≡ n
    → edges' ≡ edges ++ out ∷ [] → AreAllEdges over automata table n edges → AreEdges over automata table (get_or table n []) (length over) out → AreAllEdges over automata table (n + 1) edges'
all_edges_more over automata table n edges edges' out len pushed before here i below =
    subst (λ (l : List (List Move)). AreEdges over automata table (get_or table i []) (length over) (get_or l i [])) (sym pushed) (elim (cases_lt i n) [
      | inl earlier ↦
          subst (AreEdges over automata table (get_or table i []) (length over)) (sym (get_or_append_left edges (out ∷ []) [] i (omega arith))) (before i earlier)
      | inr last ↦
          let same : n ≡ i = omega arith in
          subst (AreEdges over automata table (get_or table i []) (length over)) (sym (get_or_push edges out [] i (len ∙ same)))
          (subst (λ m. AreEdges over automata table (get_or table m []) (length over) out) same here)
    ])

pub letter_below : (over : List Bool) (k : ℕ) → has over k ≡ true → k < length over
letter_below over k read = elim (cases_lt k (length over)) [
  | inl below ↦ below
  | inr past ↦ absurd (false≢true (sym (get_or_past over k false past) ∙ read))
]

-- edges lead to sets of the table
pub edges_followed : (over : List Bool) (automata : List Automaton) (table : List (List (List ℕ))) (n : ℕ) (edges : List (List Move)) → AreAllEdges over automata table n edges
    → AreFollowed over automata table n
edges_followed over automata table n edges are i k below read =
    let (to, step) = (are i below).all k (letter_below over k read) read in
    let (also_read, to_below, leads) = (are i below).sound k to step in
    (to, record { below = to_below; leads = leads })

-- the same of what is equal
pub edges_as : (over : List Bool) (automata automata' : List Automaton) (table table' : List (List (List ℕ))) (p k : ℕ) (out : List Move) → automata' ≡ automata → table' ≡ table
    → AreEdges over automata' table' (get_or table' p []) k out → AreEdges over automata table (get_or table p []) k out
edges_as over automata automata' table table' p k out one two are =
    subst (λ l. AreEdges over l table (get_or table p []) k out) one (subst (λ t. AreEdges over automata' t (get_or t p []) k out) two are)
