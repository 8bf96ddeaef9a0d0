-- Silent arrows to what states simulate.
use Rattle.std.proofs.Common.{◌≡◌, ◌≢◌, ℕ, ◌+◌, ◌<◌, ◌⊎◌, IsTrue, List, [], ◌∷◌, ◌++◌, length, get_or, set, None, refl, sym, ap, ◌∙◌, subst, inl, inr, arith}
use Rattle.std.specs.List.{Contains}
use Rattle.std.proofs.lemmas.Bool.{cases_eq}
use Rattle.std.proofs.lemmas.List.{get_or-set_other, get_or-set_same}
use Rattle.std.proofs.lemmas.List.Elements.{Contains-append_left, Contains-push, Contains-push_cases}
use Rattle.rela_reduce.specs.Bits.{HasBit, bit_of}
use Rattle.rela_reduce.specs.Simulation.{AddsLower, BySilent, IsCovered, IsLowered, IsLowering, IsWidened, Silently, arrows_of}
use Rattle.rela_reduce.specs.declared.arrow.Arrow.{Arrow}
use Rattle.rela_reduce.specs.declared.ranking.Ranked.{Ranked}

abbrev pub silent_to : ℕ → Arrow
silent_to q = record { label = None; to = q }

module _ (relation : List (List ℕ)) (n p : ℕ) where
  pub lowered_none : (arrows : List Arrow) → IsLowered relation n p arrows arrows
  lowered_none arrows = record { own = λ arrow listed. listed; added = λ arrow listed. inl listed }

  pub lowered_on : (old mid new : List Arrow) → IsLowered relation n p old mid → IsLowered relation n p mid new → IsLowered relation n p old new
  lowered_on old mid new first second = record {
    own = λ arrow listed. second.own arrow (first.own arrow listed);
    added = λ arrow listed. elim (second.added arrow listed) [ inl before ↦ first.added arrow before | inr low ↦ inr low ];
  }

  pub lowered_push : (old list : List Arrow) (q : ℕ) → IsLowered relation n p old list → q ≢ p → q < n → HasBit relation p q → IsLowered relation n p old (list ++ silent_to q ∷ [])
  lowered_push old list q so_far other below bit = record {
    own = λ arrow listed. Contains-append_left list (silent_to q ∷ []) arrow (so_far.own arrow listed);
    added = λ arrow listed. elim (Contains-push_cases list (silent_to q) arrow listed) [
      | inl before ↦ so_far.added arrow before
      | inr same ↦ inr (subst (IsLowering relation n p) same (record { silent = refl; other = other; state = below; simulated = bit }))
    ];
  }

  -- to which a silent arrow leads, or whose bit is set
  abbrev pub IsLed : List ℕ → List Arrow → ℕ → Type 0
  IsLed covered arrows q = (p ≡ q) ⊎ (Contains arrows (silent_to q) ⊎ IsTrue (bit_of covered q))

  pub led_push : (covered : List ℕ) (list : List Arrow) (i : ℕ) → ((q : ℕ) → q < i → HasBit relation p q → IsLed covered list q)
      → (q : ℕ) → q < i + 1 → HasBit relation p q → IsLed covered (list ++ silent_to i ∷ []) q
  led_push covered list i so_far q below bit = elim (cases_eq q i) [
    | inl same ↦ inr (inl (subst (λ (k : ℕ). Contains (list ++ silent_to i ∷ []) (silent_to k)) (sym same) (Contains-push list (silent_to i))))
    | inr other ↦ elim (so_far q (omega arith) bit) [
      | inl here ↦ inl here
      | inr more ↦ elim more [ inl listed ↦ inr (inl (Contains-append_left list (silent_to i ∷ []) (silent_to q) listed)) | inr set ↦ inr (inr set) ]
    ]
  ]

  pub led_keep : (covered : List ℕ) (list : List Arrow) (i : ℕ) → ((q : ℕ) → q < i → HasBit relation p q → IsLed covered list q) → (HasBit relation p i → IsLed covered list i)
      → (q : ℕ) → q < i + 1 → HasBit relation p q → IsLed covered list q
  led_keep covered list i so_far here q below bit = elim (cases_eq q i) [
    | inl same ↦ subst (λ (k : ℕ). IsLed covered list k) (sym same) (here (subst (λ (k : ℕ). HasBit relation p k) same bit))
    | inr other ↦ so_far q (omega arith) bit
  ]

module _ (relation : List (List ℕ)) (earlier : List Ranked) where
  pub covered_grown : (list longer : List Arrow) → ((arrow : Arrow) → Contains list arrow → Contains longer arrow) → (q : ℕ) → IsCovered relation earlier list q → IsCovered relation earlier longer q
  covered_grown list longer grown q (r, among, listed, bit) = (r, among, grown (silent_to r.state) listed, bit)

  pub covered_push : (covered after : List ℕ) (list : List Arrow) (r : Ranked) → ((q : ℕ) → IsTrue (bit_of covered q) → IsCovered relation earlier list q) → Contains earlier r
      → ((q : ℕ) → IsTrue (bit_of after q) → IsTrue (bit_of covered q) ⊎ IsTrue (bit_of (get_or relation r.state []) q))
      → (q : ℕ) → IsTrue (bit_of after q) → IsCovered relation earlier (list ++ silent_to r.state ∷ []) q
  covered_push covered after list r so_far among joined q bit = elim (joined q bit) [
    | inl before ↦ covered_grown list (list ++ silent_to r.state ∷ []) (λ arrow listed. Contains-append_left list (silent_to r.state ∷ []) arrow listed) q (so_far q before)
    | inr own ↦ (r, among, Contains-push list (silent_to r.state), own)
  ]

pub adds_lower : (relation : List (List ℕ)) (n p : ℕ) (earlier : List Ranked) (covered : List ℕ) (old mid new : List Arrow) → IsLowered relation n p old mid → IsLowered relation n p mid new
    → ((q : ℕ) → IsTrue (bit_of covered q) → IsCovered relation earlier mid q) → ((q : ℕ) → q < n → HasBit relation p q → IsLed relation n p covered new q) → AddsLower relation n p earlier old new
adds_lower relation n p earlier covered old mid new first second covers led = record {
  lowered = lowered_on relation n p old mid new first second;
  leads = λ q below bit. elim (led q below bit) [
    | inl here ↦ inl here
    | inr more ↦ elim more [
      | inl listed ↦ inr (inl listed)
      | inr set ↦ inr (inr (covered_grown relation earlier mid new second.own q (covers q set)))
    ]
  ];
}

-- silent arrows lead on where there are more arrows
pub silent_grown : (old new : List (List Arrow)) → ((p : ℕ) (arrow : Arrow) → Contains (arrows_of old p) arrow → Contains (arrows_of new p) arrow)
    → (path : List ℕ) (p q : ℕ) → BySilent old p path q → BySilent new p path q
silent_grown old new grown [] p q here = here
silent_grown old new grown (r ∷ path) p q (first, rest) = (grown p (silent_to r) first, silent_grown old new grown path r q rest)

-- the arrows so far, where those of the states in the list are done
pub record AreWidened (relation : List (List ℕ)) (n : ℕ) (done : List Ranked) (old new : List (List Arrow)) : Type 0 where
  pub lowered : (p : ℕ) → IsLowered relation n p (arrows_of old p) (arrows_of new p)
  pub leads : (r : Ranked) → Contains done r → (q : ℕ) → q < n → HasBit relation r.state q → Silently new r.state q

pub widened_none : (relation : List (List ℕ)) (n : ℕ) (lists : List (List Arrow)) → AreWidened relation n [] lists lists
widened_none relation n lists = record { lowered = λ p. lowered_none relation n p (arrows_of lists p); leads = λ r (k, below, at). absurd (omega (arith, below)) }

-- one state more
pub widened_more : (relation : List (List ℕ)) (n : ℕ) (done : List Ranked) (r : Ranked) (old before : List (List Arrow)) (new : List Arrow) → r.state < length before → AreWidened relation n done old before
    → AddsLower relation n r.state done (arrows_of before r.state) new → AreWidened relation n (done ++ r ∷ []) old (set before r.state new)
widened_more relation n done r old before new within so_far adds = record {
  lowered = λ p. elim (cases_eq p r.state) [
    | inl same ↦
        subst (λ (arrows : List Arrow). IsLowered relation n p (arrows_of old p) arrows) (sym (at p same))
        (lowered_on relation n p (arrows_of old p) (arrows_of before p) new (so_far.lowered p)
        (subst (λ (k : ℕ). IsLowered relation n k (arrows_of before k) new) (sym same) adds.lowered))
    | inr other ↦ subst (λ (arrows : List Arrow). IsLowered relation n p (arrows_of old p) arrows) (sym (get_or-set_other before r.state p new [] other)) (so_far.lowered p)
  ];
  leads = λ s listed q below bit. elim (Contains-push_cases done r s listed) [
    | inl earlier ↦ earlier_leads s earlier q below bit
    | inr same ↦
        subst (λ (k : Ranked). Silently after k.state q) same (elim (adds.leads q below (subst (λ (k : Ranked). HasBit relation k.state q) (sym same) bit)) [
          | inl here ↦ ([], here)
          | inr more ↦ elim more [
            | inl arrow ↦ (q ∷ [], (own (silent_to q) arrow, refl))
            | inr (t, among, arrow, simulates) ↦ let (path, leads) = earlier_leads t among q below simulates in (t.state ∷ path, (own (silent_to t.state) arrow, leads))
          ]
        ])
  ];
}
  where
    after : List (List Arrow)
    after = set before r.state new

    at : (p : ℕ) → p ≡ r.state → get_or (set before r.state new) p [] ≡ new
    at p same = ap (λ (k : ℕ). get_or (set before r.state new) k []) same ∙ get_or-set_same before r.state new [] within

    own : (arrow : Arrow) → Contains new arrow → Contains (arrows_of (set before r.state new) r.state) arrow
    own arrow listed = subst (λ (arrows : List Arrow). Contains arrows arrow) (sym (at r.state refl)) listed

    grown : (p : ℕ) (arrow : Arrow) → Contains (arrows_of before p) arrow → Contains (arrows_of (set before r.state new) p) arrow
    grown p arrow listed = elim (cases_eq p r.state) [
      | inl same ↦
          subst (λ (arrows : List Arrow). Contains arrows arrow) (sym (at p same))
          (adds.lowered.own arrow (subst (λ (k : ℕ). Contains (arrows_of before k) arrow) same listed))
      | inr other ↦ subst (λ (arrows : List Arrow). Contains arrows arrow) (sym (get_or-set_other before r.state p new [] other)) listed
    ]

    earlier_leads : (s : Ranked) → Contains done s → (q : ℕ) → q < n → HasBit relation s.state q → Silently (set before r.state new) s.state q
    earlier_leads s listed q below bit = let (path, leads) = so_far.leads s listed q below bit in (path, silent_grown before (set before r.state new) grown path s.state q leads)

-- all states
pub widened_all : (relation : List (List ℕ)) (n : ℕ) (order : List Ranked) (old new : List (List Arrow)) → ((p : ℕ) → p < n → (r : Ranked) × Contains order r × (r.state ≡ p)) → AreWidened relation n order old new
    → IsWidened relation n old new
widened_all relation n order old new each widened = record {
  lowered = widened.lowered;
  leads = λ p q p_in q_in bit.
      let (r, among, is) = each p p_in in
      subst (λ (k : ℕ). Silently new k q) is (widened.leads r among q q_in (subst (λ (k : ℕ). HasBit relation k q) (sym is) bit));
}
