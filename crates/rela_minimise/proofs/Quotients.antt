-- The automaton whose states are classes.
use Rattle.std.proofs.Common.{◌≡◌, ℕ, ◌<◌, ◌↔◌, true, false, cond, List, [], ◌∷◌, length, get_or, map, None, Some, refl, sym, ap, ◌∙◌, subst, inl, inr, arith}
use Rattle.std.specs.List.{All, Contains}
use Rattle.std.specs.Option.{IsSome, unwrap_or}
use Rattle.std.proofs.lemmas.Bool.{cases_Bool}
use Rattle.std.proofs.lemmas.List.{get_or-map, get_or_default, length-map}
use Rattle.std.proofs.lemmas.List.Elements.{All-from_get_or, All-head, All-tail}
use Rattle.rela_labels.specs.Letters.{has}
use Rattle.rela_nfa.specs.Automaton.{IsMove, Move}
use Rattle.rela_subset.specs.Deterministic.{Deterministic, IsAccepted, IsByArrival, IsDeterministic, IsOver, IsReachable, IsSplit, led_from, moves_of, next, state_after, states, takes, target}
use Rattle.rela_minimise.specs.Classes.{AcceptSame, AreAlike, AreClasses, AreFirst, finality, onto}
use Rattle.rela_minimise.specs.Joining.{HasSize, IsQuotient}
use Rattle.rela_minimise.proofs.Alike.{accept_final, accept_next, alike_states}
use Rattle.rela_minimise.proofs.LetterTargets.{led_within, next_within, split_at, target_at}

target_onto : (classes : List ℕ) (k : ℕ) (moves : List Move) (t : ℕ) → target moves k ≡ Some t → target (map (onto classes) moves) k ≡ Some (get_or classes t 0)
target_onto classes k [] t is = let never : None ≡ Some t = is in absurd (cc)
target_onto classes k (move ∷ others) t is = elim (cases_Bool (takes k move)) [
  | inl yes' ↦
      let at : Some move.to ≡ Some t = sym (ap (λ b. cond b (Some move.to) (target others k)) yes') ∙ is in
      let here : move.to ≡ t = cc in
      ap (λ b. cond b (Some (get_or classes move.to 0)) (target (map (onto classes) others) k)) yes' ∙ ap (λ n. Some (get_or classes n 0)) here
  | inr no' ↦
      ap (λ b. cond b (Some (get_or classes move.to 0)) (target (map (onto classes) others) k)) no'
      ∙ target_onto classes k others t (sym (ap (λ b. cond b (Some move.to) (target others k)) no') ∙ is)
]

module _ (d : Deterministic) (ok : IsDeterministic d) (classes heads : List ℕ) (are : AreClasses d (length heads) classes) (own : AreFirst (states d) classes heads)
    (r : Deterministic) (is : IsQuotient d classes heads r) where
  finals_len : length r.finals ≡ length heads
  finals_len = ap length is.finals ∙ length-map heads (finality d)

  final_at : (c : ℕ) → c < length heads → get_or r.finals c false ≡ finality d (get_or heads c 0)
  final_at c below = ap (λ fs. get_or fs c false) is.finals ∙ get_or-map (finality d) heads c 0 false below

  each_edges : (P : List Move → Type 0) → ((c : ℕ) → c < length heads → P (get_or r.edges c [])) → All P r.edges
  each_edges P holds = All-from_get_or P r.edges [] (λ c below. holds c (let each = is.edges.each in omega arith))

  class_low : (n : ℕ) → Contains classes n → n < length r.finals
  class_low n (q, within, at) =
      let counted = are.counted q (let each = are.each in omega arith) in
      let same : get_or classes q 0 ≡ n = get_or_default classes q 0 n within ∙ at in
      let len = finals_len in omega arith

  fits : (c : ℕ) → c < length heads → All (IsMove (length r.over) (length r.finals)) (get_or r.edges c [])
  fits c below k e within = let at = is.edges.onto c below in record {
    sized = subst (λ o. HasSize (length o) (get_or (get_or r.edges c []) k e)) (sym is.over) (at.sized k e within);
    leads = class_low (get_or (get_or r.edges c []) k e).to (at.within k e within);
  }

  pub quotient_deterministic : IsDeterministic r
  quotient_deterministic = record {
    automaton = record {
      each = is.edges.each ∙ sym finals_len;
      starts = let counted = are.counted d.start ok.automaton.starts in let len = finals_len in let at = is.start in omega arith;
      moves = each_edges (All (IsMove (length r.over) (length r.finals))) fits;
    };
    labelled = each_edges (All (λ move. IsSome move.label)) (λ c below. (is.edges.onto c below).labelled);
    split = each_edges (IsSplit r.over) (λ c below. subst (λ o. IsSplit o (get_or r.edges c [])) (sym is.over)
        (λ k. (is.edges.onto c below).split k ∙ split_at d ok (get_or heads c 0) (own.state c below) k));
  }

  -- the head of a state's class accepts the same words
  head_same : (q : ℕ) → q < states d → AcceptSame d (get_or heads (get_or classes q 0) 0) q
  head_same q below =
      let counted : get_or classes q 0 < length heads = are.counted q below in
      (are.alike (get_or heads (get_or classes q 0) 0) q (own.state (get_or classes q 0) counted) below).0 (own.own (get_or classes q 0) counted)

  next_class : (q k : ℕ) → q < states d → has d.over k ≡ true → next r (get_or classes q 0) k ≡ get_or classes (next d q k) 0
  next_class q k below over =
      let counted : get_or classes q 0 < length heads = are.counted q below in
      let head : ℕ = get_or heads (get_or classes q 0) 0 in
      let head_in : head < states d = own.state (get_or classes q 0) counted in
      let leads : target (map (onto classes) (moves_of d head)) k ≡ Some (get_or classes (next d head k) 0) = target_onto classes k (moves_of d head) (next d head k) (target_at d ok head k head_in over) in
      ap (λ o. unwrap_or o 0) ((is.edges.onto (get_or classes q 0) counted).leads k ∙ leads)
      ∙ (are.alike (next d head k) (next d q k) (next_within d ok head k head_in over) (next_within d ok q k below over)).1 (accept_next d head q k over (head_same q below))

  led_class : (word : List ℕ) (q : ℕ) → q < states d → IsOver d.over word → led_from r (get_or classes q 0) word ≡ get_or classes (led_from d q word) 0
  led_class [] q below over = refl
  led_class (k ∷ rest) q below over =
      let read : has d.over k ≡ true = All-head (λ j. has d.over j ≡ true) k rest over in
      ap (λ c. led_from r c rest) (next_class q k below read)
      ∙ led_class rest (next d q k) (next_within d ok q k below read) (All-tail (λ j. has d.over j ≡ true) k rest over)

  after_class : (word : List ℕ) → IsOver d.over word → state_after r word ≡ get_or classes (state_after d word) 0
  after_class word over = ap (λ c. led_from r c word) is.start ∙ led_class word d.start ok.automaton.starts over

  final_class : (q : ℕ) → q < states d → finality r (get_or classes q 0) ≡ finality d q
  final_class q below =
      let counted : get_or classes q 0 < length heads = are.counted q below in
      final_at (get_or classes q 0) counted ∙ accept_final d (get_or heads (get_or classes q 0) 0) q (head_same q below)

  after_final : (word : List ℕ) → IsOver d.over word → finality r (state_after r word) ≡ finality d (state_after d word)
  after_final word over =
      ap (finality r) (after_class word over) ∙ final_class (state_after d word) (led_within d ok word d.start ok.automaton.starts over)

  pub quotient_language : (word : List ℕ) → IsAccepted r word ↔ IsAccepted d word
  quotient_language word = (
    λ (read, final). let over = subst (λ o. IsOver o word) is.over read in (over, sym (after_final word over) ∙ final),
    λ (over, final). (subst (λ o. IsOver o word) (sym is.over) over, after_final word over ∙ final),
  )

  pub quotient_alike : (v w : List ℕ) → IsOver d.over v → IsOver d.over w → (state_after r v ≡ state_after r w) ↔ AreAlike d v w
  quotient_alike v w v_over w_over =
      let v_in = led_within d ok v d.start ok.automaton.starts v_over in
      let w_in = led_within d ok w d.start ok.automaton.starts w_over in
      let classes_alike = are.alike (state_after d v) (state_after d w) v_in w_in in
      let words_alike = alike_states d v w v_over w_over in (
        λ same. words_alike.0 (classes_alike.0 (sym (after_class v v_over) ∙ same ∙ after_class w w_over)),
        λ alike. after_class v v_over ∙ classes_alike.1 (words_alike.1 alike) ∙ sym (after_class w w_over),
      )

  pub quotient_reachable : IsReachable d → IsReachable r
  quotient_reachable reach c below =
      let c_in : c < length heads = let len = finals_len in omega arith in
      let (word, (over, leads)) = reach (get_or heads c 0) (own.state c c_in) in
      (word, (subst (λ o. IsOver o word) (sym is.over) over, after_class word over ∙ ap (λ q. get_or classes q 0) leads ∙ own.own c c_in))

  -- a word that leads to a class leads to one of its states, and an earlier one to the first state of an earlier class
  pub quotient_arrival : IsByArrival d → IsByArrival r
  quotient_arrival arrival p q word less (over, leads) =
      let read : IsOver d.over word = subst (λ o. IsOver o word) is.over over in
      let state : ℕ = state_after d word in
      let state_in : state < states d = led_within d ok word d.start ok.automaton.starts read in
      let class : get_or classes state 0 ≡ q = sym (after_class word read) ∙ leads in
      let p_in : p < length heads = let counted = are.counted state state_in in omega arith in
      let (earlier, (earlier_over, earlier_leads), before) = arrival (get_or heads p 0) state word (own.before state p state_in (omega arith)) (read, refl) in (
        earlier,
        (subst (λ o. IsOver o earlier) (sym is.over) earlier_over, after_class earlier earlier_over ∙ ap (λ n. get_or classes n 0) earlier_leads ∙ own.own p p_in),
        before,
      )
