-- Keys of the members that leave a block, moved one by one, and the blocks that this leaves.
use Rattle.std.proofs.Common.{◌≡◌, ◌≢◌, ℕ, ◌+◌, ◌^◌, ◌<◌, ◌≤◌, ◌↔◌, ◌⊎◌, List, [], ◌∷◌, length, get_or, set, take, replicate, inl, inr, arith, refl, sym, ap, subst, ◌∙◌, Vec}
use Rattle.std.specs.List.{All, Contains}
use Rattle.std.proofs.lemmas.Bool.{cases_eq}
use Rattle.std.proofs.lemmas.List.{get_or-set_other, get_or-set_same, get_or-replicate, length-replicate, take_all, take_more, with_items_is}
use Rattle.std.proofs.lemmas.List.Elements.{Contains-append_left, Contains-push, Contains-push_cases}
use Rattle.std.specs.Vec.{with_items}
use Rattle.rela_labels.specs.Partition.{block_count, IsPartition, Together}
use Rattle.rela_labels.specs.Splitting.{IsKeyed, IsFresh, IsMoved}
use Rattle.rela_labels.proofs.BlocksInOrder.{all_within_count}

-- the blocks' numbers as keys, before any member has moved
pub keyed_by_blocks : (keys moved value : List ℕ) (n : ℕ) → keys ≡ value → IsPartition value → length value < 2 ^ 32
    → n ≡ block_count value → moved ≡ replicate n 0 → IsKeyed keys moved
keyed_by_blocks keys moved value n keys_are is few n_is moved_are =
    let some = is.some_symbol in
    let len : length moved ≡ n = ap length moved_are ∙ length-replicate n 0 in
    let one : get_or value 0 0 < block_count value = all_within_count value 0 0 some in
    subst (λ ks. IsKeyed ks moved) (sym keys_are)
    (record {
      some_symbol = some;
      few = few;
      keys_below = λ k d within. let here : get_or value k d < block_count value = all_within_count value k d within in omega arith;
      moved_below = λ k d within.
          let none : get_or moved k d ≡ 0 = ap (λ ms. get_or ms k d) moved_are ∙ get_or-replicate n k 0 d (omega arith) in
          omega arith;
    })

-- one member more has been looked at
looked_at : (members : List ℕ) (i m s : ℕ) → i < length members → m ≡ get_or members i 0 → Contains (take (i + 1) members) s
    → Contains (take i members) s ⊎ (m ≡ s)
looked_at members i m s within m_is here =
    elim (Contains-push_cases (take i members) (get_or members i 0) s (subst (λ ms. Contains ms s) (take_more members i 0 within) here)) [
      | inl before ↦ inl before
      | inr last ↦ inr (m_is ∙ last)
    ]

looked_before : (members : List ℕ) (i s : ℕ) → i < length members → Contains (take i members) s → Contains (take (i + 1) members) s
looked_before members i s within before =
    subst (λ ms. Contains ms s) (sym (take_more members i 0 within)) (Contains-append_left (take i members) (get_or members i 0 ∷ []) s before)

looked_last : (members : List ℕ) (i m : ℕ) → i < length members → m ≡ get_or members i 0 → Contains (take (i + 1) members) m
looked_last members i m within m_is =
    subst (λ s. Contains (take (i + 1) members) s) (sym m_is)
    (subst (λ ms. Contains ms (get_or members i 0)) (sym (take_more members i 0 within)) (Contains-push (take i members) (get_or members i 0)))

-- another symbol than the member at i
moved_other : (members moved keys now now' : List ℕ) (i m s : ℕ) → i < length members → m ≡ get_or members i 0 → m ≢ s
    → get_or now' s 0 ≡ get_or now s 0 → IsMoved (take i members) moved keys now s → IsMoved (take (i + 1) members) moved keys now' s
moved_other members moved keys now now' i m s within m_is differ same is =
    elim is [
      | inl went ↦ inl (looked_before members i s within went.0, same ∙ went.1)
      | inr stayed ↦ inr (
        λ here. elim (looked_at members i m s within m_is here) [
          | inl before ↦ stayed.0 before
          | inr last ↦ differ last
        ],
        same ∙ stayed.1,
      )
    ]

-- a member whose key is an old one
pub moved_now : (members moved keys now : List ℕ) (first i m v : ℕ) → i < length members → m ≡ get_or members i 0 → m < length now
    → get_or now m 0 < first → v ≡ get_or moved (get_or now m 0) 0 → first ≤ get_or moved (get_or keys m 0) 0
    → ((s : ℕ) → s < length keys → IsMoved (take i members) moved keys now s) → length now ≡ length keys
    → (s : ℕ) → s < length keys → IsMoved (take (i + 1) members) moved keys (set now m v) s
moved_now members moved keys now first i m v within m_is m_in old v_is has each len s s_in =
    elim (cases_eq s m) [
      | inl same ↦
          subst (λ r. IsMoved (take (i + 1) members) moved keys (set now m v) r) (sym same)
          (elim (each m (omega arith)) [
            | inl went ↦ let at : get_or now m 0 ≡ get_or moved (get_or keys m 0) 0 = went.1 in absurd (omega arith)
            | inr stayed ↦ inl (
              looked_last members i m within m_is,
              get_or-set_same now m v 0 m_in ∙ v_is ∙ ap (λ key. get_or moved key 0) stayed.1,
            )
          ])
      | inr differ ↦
          moved_other members moved keys now (set now m v) i m s within m_is (λ e. differ (sym e))
          (get_or-set_other now m s v 0 differ) (each s s_in)
    ]

-- a member whose key is fresh already
pub moved_before : (members moved keys now : List ℕ) (first i m : ℕ) → i < length members → m ≡ get_or members i 0 → m < length keys
    → first ≤ get_or now m 0 → get_or keys m 0 < first
    → ((s : ℕ) → s < length keys → IsMoved (take i members) moved keys now s)
    → (s : ℕ) → s < length keys → IsMoved (take (i + 1) members) moved keys now s
moved_before members moved keys now first i m within m_is m_in fresh old each s s_in =
    elim (cases_eq s m) [
      | inl same ↦
          subst (λ r. IsMoved (take (i + 1) members) moved keys now r) (sym same)
          (elim (each m m_in) [
            | inl went ↦ inl (looked_before members i m within went.0, went.1)
            | inr stayed ↦ let at : get_or now m 0 ≡ get_or keys m 0 = stayed.1 in absurd (omega arith)
          ])
      | inr differ ↦ moved_other members moved keys now now i m s within m_is (λ e. differ (sym e)) refl (each s s_in)
    ]

-- all members have been looked at
pub all_moved : (members moved keys keys' : List ℕ) (i s : ℕ) → length members ≤ i → IsMoved (take i members) moved keys keys' s → IsMoved members moved keys keys' s
all_moved members moved keys keys' i s all is = subst (λ ms. IsMoved ms moved keys keys' s) (take_all i members all) is

-- Two keys are the same after the move where they were before it and both or neither are members.
pub split_by_moves : (members moved keys keys' : List ℕ) (first : ℕ) → IsFresh first moved → All (λ key. key < first) keys
    → ((s : ℕ) → Contains members s → first ≤ get_or moved (get_or keys s 0) 0)
    → ((s : ℕ) → s < length keys → IsMoved members moved keys keys' s)
    → (s t : ℕ) → s < length keys → t < length keys → Together keys' s t ↔ (Together keys s t × (Contains members s ↔ Contains members t))
split_by_moves members moved keys keys' first fresh old has each s t s_in t_in =
    let s_old = old s 0 s_in in
    let t_old = old t 0 t_in in
    elim (each s s_in) [
      | inl s_went ↦
          let s_has = has s s_went.0 in
          let s_at : get_or keys' s 0 ≡ get_or moved (get_or keys s 0) 0 = s_went.1 in
          elim (each t t_in) [
            | inl t_went ↦
                let t_at : get_or keys' t 0 ≡ get_or moved (get_or keys t 0) 0 = t_went.1 in (
                  λ same. (
                    fresh.apart (get_or keys s 0) (get_or keys t 0) s_old t_old s_has (sym s_at ∙ same ∙ t_at),
                    (λ _. t_went.0, λ _. s_went.0),
                  ),
                  λ both. s_at ∙ ap (λ key. get_or moved key 0) both.0 ∙ sym t_at,
                )
            | inr t_stayed ↦
                let t_at : get_or keys' t 0 ≡ get_or keys t 0 = t_stayed.1 in (
                  λ same. absurd (omega arith),
                  λ both. absurd (t_stayed.0 (both.1.0 s_went.0)),
                )
          ]
      | inr s_stayed ↦
          let s_at : get_or keys' s 0 ≡ get_or keys s 0 = s_stayed.1 in
          elim (each t t_in) [
            | inl t_went ↦
                let t_has = has t t_went.0 in
                let t_at : get_or keys' t 0 ≡ get_or moved (get_or keys t 0) 0 = t_went.1 in (
                  λ same. absurd (omega arith),
                  λ both. absurd (s_stayed.0 (both.1.1 t_went.0)),
                )
            | inr t_stayed ↦
                let t_at : get_or keys' t 0 ≡ get_or keys t 0 = t_stayed.1 in (
                  λ same. (
                    sym s_at ∙ same ∙ t_at,
                    (λ s_here. absurd (s_stayed.0 s_here), λ t_here. absurd (t_stayed.0 t_here)),
                  ),
                  λ both. s_at ∙ both.0 ∙ sym t_at,
                )
          ]
    ]

-- the same for keys that a vector owns and lends
pub split_in_place : {Z : Type 0} → (own : Vec ℕ Z) (k1 k2 m2 keys' members before moved value : List ℕ)
    → IsKeyed own.items before → own.items ≡ value → k1 ≡ own.items → k2 ≡ own.items → m2 ≡ moved → length keys' ≡ length k2 → length k2 ≡ own.len
    → IsFresh (length before) moved → ((s : ℕ) → Contains members s → length before ≤ get_or moved (get_or k1 s 0) 0)
    → ((s : ℕ) → s < length k2 → IsMoved members m2 k2 keys' s)
    → (s t : ℕ) → s < length value → t < length value
    → Together (with_items own keys').items s t ↔ (Together value s t × (Contains members s ↔ Contains members t))
split_in_place own k1 k2 m2 keys' members before moved value keyed value_is k1_is k2_is m2_is len cap fresh given each =
    let old : All (λ key. key < length before) value = subst (λ ks. All (λ key. key < length before) ks) value_is keyed.keys_below in
    let has : (s : ℕ) → Contains members s → length before ≤ get_or moved (get_or value s 0) 0 =
    subst (λ ks. (s : ℕ) → Contains members s → length before ≤ get_or moved (get_or ks s 0) 0) (k1_is ∙ value_is) given in
    let by_moved : (s : ℕ) → s < length k2 → IsMoved members moved k2 keys' s =
    subst (λ m. (s : ℕ) → s < length k2 → IsMoved members m k2 keys' s) m2_is each in
    let by_value : (s : ℕ) → s < length value → IsMoved members moved value keys' s =
    subst (λ ks. (s : ℕ) → s < length ks → IsMoved members moved ks keys' s) (k2_is ∙ value_is) by_moved in
    subst
    (λ ks. (s t : ℕ) → s < length value → t < length value
    → Together ks s t ↔ (Together value s t × (Contains members s ↔ Contains members t)))
    (sym (with_items_is own keys' (len ∙ cap)))
    (split_by_moves members moved value keys' (length before) fresh old has by_value)
