-- There is just one minimal automaton of a set of words.
use Rattle.std.proofs.Common.{◌≡◌, ◌∙◌, ℕ, ◌-◌, ◌<◌, ◌≤◌, ◌↔◌, Bool, true, false, List, [], ◌∷◌, ◌++◌, length, get_or, refl, sym, ap, subst, inl, inr, arith}
use Rattle.std.specs.Bool.{IsTrue}
use Rattle.std.proofs.lemmas.Bool.{cases_lt}
use Rattle.std.proofs.lemmas.List.{get_or_default, same_lists}
use Rattle.std.proofs.lemmas.List.Elements.{All-append, All-cons, All-head, All-nil, All-tail}
use Rattle.rela_names.specs.Shortlex.{IsBefore}
use Rattle.rela_rir.specs.Meaning.{IsPathWord}
use Rattle.rela_engine.specs.SymbolAutomata.{SymbolAutomaton, AcceptsFrom, IsComplete, IsMinimalOf, led_from, row_of, size}
use Rattle.rela_engine.proofs.ByShortlex.{by_earlier}

-- ---- where words lead

led_append : (a : SymbolAutomaton) (q : ℕ) (v w : List ℕ) → led_from a q (v ++ w) ≡ led_from a (led_from a q v) w
led_append a q [] w = refl
led_append a q (s ∷ v) w = led_append a (get_or (row_of a q) s 0) v w

led_within : (n : ℕ) (a : SymbolAutomaton) → IsComplete n a → (q : ℕ) (w : List ℕ) → q < size a → IsPathWord n w → led_from a q w < size a
led_within n a complete q [] q_in path = q_in
led_within n a complete q (s ∷ w) q_in path =
    let s_in : s < length (row_of a q) = omega (arith, All-head (λ t. t < n) s w path, complete.symbols_of q q_in) in
    led_within n a complete (get_or (row_of a q) s 0) w (complete.states_of q q_in s 0 s_in) (All-tail (λ t. t < n) s w path)

same_answers : (x y : Bool) → IsTrue x ↔ IsTrue y → x ≡ y
same_answers true true both = refl
same_answers true false both = sym (both.0 refl)
same_answers false true both = both.1 refl
same_answers false false both = refl

module _ (n : ℕ) (words : List ℕ → Type 0) where
  -- from where a word leads those words are accepted that continue it to one of the set
  continued : (a : SymbolAutomaton) → IsMinimalOf n words a → (v u : List ℕ) → IsPathWord n v → IsPathWord n u
      → AcceptsFrom a (led_from a 0 v) u ↔ words (v ++ u)
  continued a is v u v_path u_path =
      let told = is.language (v ++ u) (All-append (λ s. s < n) v u v_path u_path) in
      let same = led_append a 0 v u in (
        λ accepted. told.0 (subst (λ (q : ℕ). IsTrue (get_or a.accepts q false)) (sym same) accepted),
        λ is_word. subst (λ (q : ℕ). IsTrue (get_or a.accepts q false)) same (told.1 is_word),
      )

  from_start : (a : SymbolAutomaton) → IsMinimalOf n words a → (w : List ℕ) → IsPathWord n w → led_from a 0 w < size a
  from_start a is w path = led_within n a is.complete 0 w is.complete.start path

  module _ (a b : SymbolAutomaton) (a_is : IsMinimalOf n words a) (b_is : IsMinimalOf n words b) where
    -- from where words lead that lead to one state of the other automaton the same is accepted
    carried : (v w u : List ℕ) → IsPathWord n v → IsPathWord n w → IsPathWord n u → led_from b 0 v ≡ led_from b 0 w
        → AcceptsFrom a (led_from a 0 v) u → AcceptsFrom a (led_from a 0 w) u
    carried v w u v_path w_path u_path same accepted =
        let by_v : AcceptsFrom b (led_from b 0 v) u = (continued b b_is v u v_path u_path).1 ((continued a a_is v u v_path u_path).0 accepted) in
        let by_w : AcceptsFrom b (led_from b 0 w) u = subst (λ (q : ℕ). AcceptsFrom b q u) same by_v in
        (continued a a_is w u w_path u_path).1 ((continued b b_is w u w_path u_path).0 by_w)

    -- words that lead to one state of the other automaton lead to one state
    together : (v w : List ℕ) → IsPathWord n v → IsPathWord n w → led_from b 0 v ≡ led_from b 0 w → led_from a 0 v ≡ led_from a 0 w
    together v w v_path w_path same =
        a_is.apart (led_from a 0 v) (led_from a 0 w) (from_start a a_is v v_path) (from_start a a_is w w_path)
        (λ u u_path. (carried v w u v_path w_path u_path same, carried w v u w_path v_path u_path (sym same)))

    -- where all earlier words lead to one state, a word doesn't lead to a later state than in the other automaton
    none_later : (w : List ℕ) → IsPathWord n w → ((u : List ℕ) → IsBefore u w → IsPathWord n u → led_from a 0 u ≡ led_from b 0 u)
        → ¬ (led_from b 0 w < led_from a 0 w)
    none_later w path earlier less =
        let first = a_is.arrival (led_from b 0 w) (led_from a 0 w) w less (path, refl) in
        let u_path : IsPathWord n first.0 = first.1.0 in
        let u_leads : led_from a 0 first.0 ≡ led_from b 0 w = first.1.1 in
        let same : led_from a 0 first.0 ≡ led_from a 0 w =
        together first.0 w u_path path (sym (earlier first.0 first.2 u_path) ∙ u_leads) in
        omega (arith, less, sym u_leads ∙ same)

  module _ (a b : SymbolAutomaton) (a_is : IsMinimalOf n words a) (b_is : IsMinimalOf n words b) where
    -- each word leads to one state of both
    same_led : (w : List ℕ) → IsPathWord n w → led_from a 0 w ≡ led_from b 0 w
    same_led = by_earlier (λ w. IsPathWord n w → led_from a 0 w ≡ led_from b 0 w)
        (λ w earlier path. elim (cases_lt (led_from b 0 w) (led_from a 0 w)) [
          | inl less ↦ absurd (none_later a b a_is b_is w path earlier less)
          | inr not_less ↦ elim (cases_lt (led_from a 0 w) (led_from b 0 w)) [
            | inl more ↦ absurd (none_later b a b_is a_is w path (λ u before u_path. sym (earlier u before u_path)) more)
            | inr not_more ↦ omega (arith, not_less, not_more)
          ]
        ])

    -- a word that leads to a state of the one leads there in the other
    record ReachedInBoth (q : ℕ) : Type 0 where
      word : List ℕ
      path : IsPathWord n word
      leads : led_from a 0 word ≡ q
      leads_too : led_from b 0 word ≡ q

    reached : (q : ℕ) → q < size a → ReachedInBoth q
    reached q q_in =
        let some = a_is.reached q q_in in record {
          word = some.0;
          path = some.1.0;
          leads = some.1.1;
          leads_too = sym (same_led some.0 some.1.0) ∙ some.1.1;
        }

    in_other : (q : ℕ) → q < size a → q < size b
    in_other q q_in =
        let by = reached q q_in in
        subst (λ (p : ℕ). p < size b) by.leads_too (from_start b b_is by.word by.path)

    not_more : size a ≤ size b
    not_more =
        let some : 0 < size a = a_is.complete.start in
        let last : size a - 1 < size b = in_other (size a - 1) (omega arith) in
        omega arith

    same_final : (q : ℕ) → q < size a → get_or a.accepts q false ≡ get_or b.accepts q false
    same_final q q_in =
        let by = reached q q_in in
        let a_told = a_is.language by.word by.path in
        let b_told = b_is.language by.word by.path in
        same_answers (get_or a.accepts q false) (get_or b.accepts q false) (
          λ final.
              subst (λ (p : ℕ). IsTrue (get_or b.accepts p false)) by.leads_too
              (b_told.1 (a_told.0 (subst (λ (p : ℕ). IsTrue (get_or a.accepts p false)) (sym by.leads) final))),
          λ final.
              subst (λ (p : ℕ). IsTrue (get_or a.accepts p false)) by.leads
              (a_told.1 (b_told.0 (subst (λ (p : ℕ). IsTrue (get_or b.accepts p false)) (sym by.leads_too) final))),
        )

    same_next : (q s : ℕ) → q < size a → s < n → get_or (row_of a q) s 0 ≡ get_or (row_of b q) s 0
    same_next q s q_in s_in =
        let by = reached q q_in in
        let path : IsPathWord n (by.word ++ s ∷ []) = All-append (λ t. t < n) by.word (s ∷ []) by.path (All-cons (λ t. t < n) s [] s_in (All-nil (λ t. t < n))) in
        sym (ap (λ (p : ℕ). get_or (row_of a p) s 0) by.leads)
        ∙ sym (led_append a 0 by.word (s ∷ []))
        ∙ same_led (by.word ++ s ∷ []) path
        ∙ led_append b 0 by.word (s ∷ [])
        ∙ ap (λ (p : ℕ). get_or (row_of b p) s 0) by.leads_too

    same_row : (q : ℕ) → q < size a → row_of a q ≡ row_of b q
    same_row q q_in =
        let a_long : length (row_of a q) ≡ n = a_is.complete.symbols_of q q_in in
        let b_long : length (row_of b q) ≡ n = b_is.complete.symbols_of q (in_other q q_in) in
        same_lists (row_of a q) (row_of b q) (a_long ∙ sym b_long) (λ s d within.
        (let s_in : s < n = omega (arith, within, a_long) in
        get_or_default (row_of a q) s d 0 within
        ∙ same_next q s q_in s_in
        ∙ get_or_default (row_of b q) s 0 d (omega (arith, s_in, b_long))))

  pub one_minimal : (a b : SymbolAutomaton) → IsMinimalOf n words a → IsMinimalOf n words b → a ≡ b
  one_minimal a b a_is b_is =
      let sizes : size a ≡ size b = omega (arith, not_more a b a_is b_is, not_more b a b_is a_is) in
      let accepts : a.accepts ≡ b.accepts = same_lists a.accepts b.accepts sizes (λ q d within.
      get_or_default a.accepts q d false within
      ∙ same_final a b a_is b_is q within
      ∙ get_or_default b.accepts q false d (omega (arith, within, sizes))) in
      let a_rows : length a.rows ≡ size a = a_is.complete.each in
      let b_rows : length b.rows ≡ size b = b_is.complete.each in
      let rows : a.rows ≡ b.rows = same_lists a.rows b.rows (a_rows ∙ sizes ∙ sym b_rows) (λ q d within.
      get_or_default a.rows q d [] within
      ∙ same_row a b a_is b_is q (omega (arith, within, a_rows))
      ∙ get_or_default b.rows q [] d (omega (arith, within, a_rows, sizes, b_rows))) in
      (λ i. record { accepts = accepts i; rows = rows i })
