-- Partitions over a shared one, in which some symbols are apart.
use Rattle.std.proofs.Common.{zero, suc, ◌≡◌, ℕ, ◌^◌, ◌<◌, ◌≤◌, ◌↔◌, ◌⊎◌, ◌==◌, List, [], ◌∷◌, length, get_or, Option, inl, inr, arith, refl, sym, ap, subst, ◌∙◌}
use Rattle.std.proofs.lemmas.Bool.{cond-true, cond-false, eq-eqb, ne_eqb}
use Rattle.std.proofs.lemmas.Grind.{same_number_lists}
use Rattle.std.proofs.lemmas.List.{get_or_default}
use Rattle.std.proofs.lemmas.List.Elements.{Contains-get_or}
use Rattle.std.proofs.lemmas.List.FromFn.{length-map-range_with_len, get_or-map-range_with_len}
use Rattle.std.proofs.lemmas.Map.Keys.{below_from_sorted}
use Rattle.std.proofs.lemmas.Map.Views.{length-le_from_below}
use Rattle.std.specs.List.{All, Contains}
use Rattle.std.specs.List.Sorted.{IsStrictlySortedBy}
use Rattle.rela_labels.specs.Apart.{IsAscending, IsLinked, IsLead, number_beside, blocks_now, AreShared, ArePlaces, IsLayered}
use Rattle.rela_labels.specs.Partition.{IsNumbered, Together}
use Rattle.rela_labels.specs.declared.base.Base.{Base}
use Rattle.rela_labels.proofs.AscendingLists.{one_place, IsAt, at_of, contained, in_or_not}

pub length-blocks_now : (apart beside numbers blocks : List ℕ) → length (blocks_now apart beside numbers blocks) ≡ length blocks
unfolding blocks_now
length-blocks_now apart beside numbers blocks =
    length-map-range_with_len (λ s. number_beside apart beside s (get_or numbers (get_or blocks s 0) 0)) 0 (length blocks)

pub block_now : (apart beside numbers blocks : List ℕ) (s : ℕ) → s < length blocks
    → get_or (blocks_now apart beside numbers blocks) s 0 ≡ number_beside apart beside s (get_or numbers (get_or blocks s 0) 0)
unfolding blocks_now
block_now apart beside numbers blocks s within =
    get_or-map-range_with_len (λ s. number_beside apart beside s (get_or numbers (get_or blocks s 0) 0)) 0 (length blocks) s s 0 within (omega arith)

-- beside a symbol stands its number, wherever it is
number_at : (apart beside : List ℕ) (s other i : ℕ) → length beside ≡ length apart
    → ((j : ℕ) → j < length apart → get_or apart j 0 ≡ s → j ≡ i) → IsAt apart s i → number_beside apart beside s other ≡ get_or beside i 0
unfolding number_beside
number_at [] beside s other i len one is = let within = is.within in absurd (omega arith)
number_at (a ∷ apart) [] s other i len one is = absurd (omega arith)
number_at (a ∷ apart) (n ∷ beside) s other zero len one is = cond-true (a == s) n (number_beside apart beside s other) (eq-eqb a s is.at)
number_at (a ∷ apart) (n ∷ beside) s other (suc i) len one is =
    let within = is.within in
    cond-false (a == s) n (number_beside apart beside s other) (ne_eqb a s (λ e. let none = one zero (omega arith) e in omega arith))
    ∙ number_at apart beside s other i (omega arith) (λ j j_in e. let same = one (suc j) (omega arith) e in omega arith)
    (record { within = omega arith; at = is.at })

pub number_there : (apart beside : List ℕ) (s other i : ℕ) → length beside ≡ length apart → IsAscending apart → i < length apart → get_or apart i 0 ≡ s
    → number_beside apart beside s other ≡ get_or beside i 0
number_there apart beside s other i len ascending within at =
    number_at apart beside s other i len (λ j j_in e. one_place apart j i ascending j_in within (e ∙ sym at)) (record { within = within; at = at })

pub number_elsewhere : (apart beside : List ℕ) (s other : ℕ) → (Contains apart s → ⊥) → number_beside apart beside s other ≡ other
unfolding number_beside
number_elsewhere [] beside s other absent = refl
number_elsewhere (a ∷ apart) [] s other absent = refl
number_elsewhere (a ∷ apart) (n ∷ beside) s other absent =
    cond-false (a == s) n (number_beside apart beside s other)
    (ne_eqb a s (λ e. absent (contained (a ∷ apart) s zero (record { within = omega arith; at = e }))))
    ∙ number_elsewhere apart beside s other (λ there.
    let at = at_of apart s there in
    let within = at.1.within in
    absent (contained (a ∷ apart) s (suc at.0) (record { within = omega arith; at = at.1.at })))

-- a fresh partition has the blocks of its base
none_ascending : IsAscending []
unfolding IsStrictlySortedBy
none_ascending = tt

pub fresh_blocks : (numbers blocks first : List ℕ) → IsNumbered blocks first → ((k : ℕ) → k < length first → get_or numbers k 0 ≡ k)
    → blocks_now [] [] numbers blocks ≡ blocks
fresh_blocks numbers blocks first is each =
    same_number_lists (blocks_now [] [] numbers blocks) blocks (length-blocks_now [] [] numbers blocks) (λ s within.
    let len = length-blocks_now [] [] numbers blocks in
    let s_in : s < length blocks = omega arith in
    block_now [] [] numbers blocks s s_in
    ∙ number_elsewhere [] [] s (get_or numbers (get_or blocks s 0) 0) (λ there. let none = there.1 in omega arith)
    ∙ each (get_or blocks s 0) (is.counted s s_in))

fresh_base : (numbers blocks first : List ℕ) (next : List (Option ℕ)) → IsNumbered blocks first → IsLinked blocks next
    → length numbers ≡ length first → ((k : ℕ) → k < length first → get_or numbers k 0 ≡ k) → IsLayered blocks first next [] [] numbers first
fresh_base numbers blocks first next is linked len each =
    let same = fresh_blocks numbers blocks first is each in
    record {
      shared = is;
      linked = linked;
      ascending = none_ascending;
      within = λ k d within. absurd (omega arith);
      beside_len = refl;
      numbers_len = len;
      numbered = subst (λ bs. IsNumbered bs first) (sym same) is;
      together = λ s t s_in t_in. (
        λ e. (subst (λ bs. Together bs s t) same e, λ u there. let none = there.1 in absurd (omega arith)),
        λ shared. subst (λ bs. Together bs s t) (sym same) shared.0,
      );
    }

-- a fresh partition, with its parts as calls give them
pub record IsFresh (blocks first : List ℕ) (next : List (Option ℕ)) (apart beside numbers least given : List ℕ) : Type 0 where
  pub layered : IsLayered blocks first next apart beside numbers least
  pub shown : blocks_now apart beside numbers blocks ≡ given

pub fresh : (given_blocks given_least : List ℕ) (base shared : Base) (apart beside numbers first least lent : List ℕ) (n : ℕ)
    → IsNumbered given_blocks given_least → base ≡ shared → shared.blocks.items ≡ given_blocks → shared.first.items ≡ first → first ≡ lent
    → lent ≡ given_least → least ≡ given_least → IsLinked shared.blocks.items shared.next.items → apart ≡ [] → beside ≡ []
    → n ≡ length given_least → length numbers ≡ n → ((k : ℕ) → k < n → get_or numbers k 0 ≡ k)
    → IsFresh base.blocks.items base.first.items base.next.items apart beside numbers least given_blocks
fresh given_blocks given_least base shared apart beside numbers first least lent n is base_is blocks_is first_is lent_is given_is least_is linked apart_is
    beside_is n_is len each =
    let firsts : shared.first.items ≡ given_least = first_is ∙ lent_is ∙ given_is in
    let numbered : IsNumbered shared.blocks.items shared.first.items =
    subst (λ bs. IsNumbered bs shared.first.items) (sym blocks_is) (subst (λ fs. IsNumbered given_blocks fs) (sym firsts) is) in
    let first_len : length shared.first.items ≡ length given_least = ap length firsts in
    let all = fresh_base numbers shared.blocks.items shared.first.items shared.next.items numbered linked (omega arith) (λ k below. each k (omega arith)) in
    let shown = fresh_blocks numbers shared.blocks.items shared.first.items numbered (λ k below. each k (omega arith)) in
    subst (λ (b : Base). IsFresh b.blocks.items b.first.items b.next.items apart beside numbers least given_blocks) (sym base_is)
    (subst (λ xs. IsFresh shared.blocks.items shared.first.items shared.next.items xs beside numbers least given_blocks) (sym apart_is)
    (subst (λ bs. IsFresh shared.blocks.items shared.first.items shared.next.items [] bs numbers least given_blocks) (sym beside_is)
    (subst (λ ls. IsFresh shared.blocks.items shared.first.items shared.next.items [] [] numbers ls given_blocks) (firsts ∙ sym least_is)
    (record { layered = all; shown = shown ∙ blocks_is }))))

-- Numbers for blocks, each of which has a leader, its least symbol: the place of its leader.
pub record IsRanked (now least : List ℕ) : Type 0 where
  pub ascending : IsAscending least
  pub counted : (s : ℕ) → s < length now → get_or now s 0 < length least
  pub leader : (s : ℕ) → s < length now → get_or least (get_or now s 0) 0 ≤ s
  pub within : (b : ℕ) → b < length least → get_or least b 0 < length now
  pub leads : (b : ℕ) → b < length least → get_or now (get_or least b 0) 0 ≡ b

numbered_by_rank : (now least : List ℕ) → 0 < length now → length now < 2 ^ 32 → IsRanked now least → IsNumbered now least
numbered_by_rank now least some few is = record {
  partition = record {
    some_symbol = some;
    by_least = λ s block within below.
        let counted = is.counted s within in
        let leader = is.leader s within in
        let less = below_from_sorted least block (get_or now s 0) 0 is.ascending below counted in
        (get_or least block 0, omega arith, is.leads block (omega arith));
  };
  counted = is.counted;
  first = λ block below. record {
    within = is.within block below;
    member = is.leads block below;
    least = λ r before same.
        let within = is.within block below in
        let leader = is.leader r (omega arith) in
        let at : get_or least (get_or now r 0) 0 ≡ get_or least block 0 = ap (λ b. get_or least b 0) same in
        omega arith;
  };
  short = length-le_from_below (length now) least is.ascending (λ k d within.
      let below = is.within k within in
      let same : get_or least k d ≡ get_or least k 0 = get_or_default least k d 0 within in
      omega arith);
  few = few;
}

-- what is known of the parts of a partition over another
module _ (blocks first apart leads least beside numbers : List ℕ)
    (shared : IsNumbered blocks first)
    (ascending : IsAscending apart)
    (within : All (λ s. s < length blocks) apart)
    (leads_len : length leads ≡ length first)
    (led : (b : ℕ) → b < length first → IsLead blocks apart b (get_or leads b 0))
    (least_ascending : IsAscending least)
    (members : (s : ℕ) → Contains least s ↔ (Contains apart s ⊎ Contains leads s))
    (apart_places : ArePlaces least apart beside)
    (lead_places : ArePlaces least leads numbers) where
  -- the number of a symbol's block, and the symbol at that place
  record IsPut (s block leader : ℕ) : Type 0 where
    counted : block < length least
    leader_is : get_or least block 0 ≡ leader

  put_apart : (s i : ℕ) → s < length blocks → IsAt apart s i → IsPut s (get_or (blocks_now apart beside numbers blocks) s 0) s
  put_apart s i s_in is =
      let number : get_or (blocks_now apart beside numbers blocks) s 0 ≡ get_or beside i 0 =
      block_now apart beside numbers blocks s s_in
      ∙ number_there apart beside s (get_or numbers (get_or blocks s 0) 0) i apart_places.len ascending is.within is.at in
      let below = apart_places.below i is.within in
      record {
        counted = omega arith;
        leader_is = ap (λ b. get_or least b 0) number ∙ apart_places.each i is.within ∙ is.at;
      }

  put_among : (s : ℕ) → s < length blocks → (Contains apart s → ⊥)
      → IsPut s (get_or (blocks_now apart beside numbers blocks) s 0) (get_or leads (get_or blocks s 0) 0)
  put_among s s_in absent =
      let number : get_or (blocks_now apart beside numbers blocks) s 0 ≡ get_or numbers (get_or blocks s 0) 0 =
      block_now apart beside numbers blocks s s_in ∙ number_elsewhere apart beside s (get_or numbers (get_or blocks s 0) 0) absent in
      let counted = shared.counted s s_in in
      let below = lead_places.below (get_or blocks s 0) (omega arith) in
      record {
        counted = omega arith;
        leader_is = ap (λ b. get_or least b 0) number ∙ lead_places.each (get_or blocks s 0) (omega arith);
      }

  lead_of : (s : ℕ) → s < length blocks → IsLead blocks apart (get_or blocks s 0) (get_or leads (get_or blocks s 0) 0)
  lead_of s s_in = led (get_or blocks s 0) (shared.counted s s_in)

  is_counted : (s : ℕ) → s < length blocks → get_or (blocks_now apart beside numbers blocks) s 0 < length least
  is_counted s s_in =
      elim (in_or_not apart s) [
        | inl there ↦ (put_apart s there.0 s_in there.1).counted
        | inr absent ↦ (put_among s s_in absent).counted
      ]

  leader_before : (s : ℕ) → s < length blocks → get_or least (get_or (blocks_now apart beside numbers blocks) s 0) 0 ≤ s
  leader_before s s_in =
      elim (in_or_not apart s) [
        | inl there ↦ let is = (put_apart s there.0 s_in there.1).leader_is in omega arith
        | inr absent ↦
            let is = (put_among s s_in absent).leader_is in
            let before = ((lead_of s s_in).least s s_in refl absent).1 in
            omega arith
      ]

  -- a leader leads itself
  record IsLeader (l : ℕ) : Type 0 where
    below : l < length blocks
    itself : get_or least (get_or (blocks_now apart beside numbers blocks) l 0) 0 ≡ l

  leader_apart : (l i : ℕ) → IsAt apart l i → IsLeader l
  leader_apart l i is =
      let below : l < length blocks = subst (λ s. s < length blocks) is.at (within i 0 is.within) in
      record { below = below; itself = (put_apart l i below is).leader_is }

  leader_among : (l b : ℕ) → b < length first → IsLead blocks apart b l → get_or leads b 0 ≡ l → IsLeader l
  leader_among l b b_in is at =
      elim (in_or_not apart l) [
        | inl there ↦ leader_apart l there.0 there.1
        | inr absent ↦ record {
          below = is.within;
          itself = (put_among l is.within absent).leader_is ∙ ap (λ block. get_or leads block 0) is.member ∙ at;
        }
      ]

  leader_of : (b : ℕ) → b < length least → IsLeader (get_or least b 0)
  leader_of b b_in =
      elim ((members (get_or least b 0)).0 (Contains-get_or least b 0 b_in)) [
        | inl there ↦ let at = at_of apart (get_or least b 0) there in leader_apart (get_or least b 0) at.0 at.1
        | inr there ↦
            let at = at_of leads (get_or least b 0) there in
            let at_in = at.1.within in
            leader_among (get_or least b 0) at.0 (omega arith) (subst (λ l. IsLead blocks apart at.0 l) at.1.at (led at.0 (omega arith))) at.1.at
      ]

  ranked : IsRanked (blocks_now apart beside numbers blocks) least
  ranked =
      let len = length-blocks_now apart beside numbers blocks in
      record {
        ascending = least_ascending;
        counted = λ s s_in. is_counted s (omega arith);
        leader = λ s s_in. leader_before s (omega arith);
        within = λ b b_in. let below = (leader_of b b_in).below in omega arith;
        leads = λ b b_in.
            one_place least (get_or (blocks_now apart beside numbers blocks) (get_or least b 0) 0) b least_ascending
            (is_counted (get_or least b 0) (leader_of b b_in).below) b_in (leader_of b b_in).itself;
      }

  -- two symbols with the same leader
  same_leaders : (s t : ℕ) → s < length blocks → t < length blocks → Together (blocks_now apart beside numbers blocks) s t
      → AreShared blocks apart s t
  same_leaders s t s_in t_in same =
      let leaders : get_or least (get_or (blocks_now apart beside numbers blocks) s 0) 0 ≡ get_or least (get_or (blocks_now apart beside numbers blocks) t 0) 0 =
      ap (λ b. get_or least b 0) same in
      elim (in_or_not apart s) [
        | inl s_there ↦
            let s_leads = (put_apart s s_there.0 s_in s_there.1).leader_is in
            elim (in_or_not apart t) [
              | inl t_there ↦
                  let t_leads = (put_apart t t_there.0 t_in t_there.1).leader_is in
                  same_symbol s t (omega arith)
              | inr t_absent ↦
                  let t_leads = (put_among t t_in t_absent).leader_is in
                  let s_is : get_or leads (get_or blocks t 0) 0 ≡ s = omega arith in
                  absurd (((lead_of t t_in).least t t_in refl t_absent).0 (subst (Contains apart) (sym s_is) (contained apart s s_there.0 s_there.1)))
            ]
        | inr s_absent ↦
            let s_leads = (put_among s s_in s_absent).leader_is in
            elim (in_or_not apart t) [
              | inl t_there ↦
                  let t_leads = (put_apart t t_there.0 t_in t_there.1).leader_is in
                  let t_is : get_or leads (get_or blocks s 0) 0 ≡ t = omega arith in
                  absurd (((lead_of s s_in).least s s_in refl s_absent).0 (subst (Contains apart) (sym t_is) (contained apart t t_there.0 t_there.1)))
              | inr t_absent ↦
                  let t_leads = (put_among t t_in t_absent).leader_is in
                  let one : get_or leads (get_or blocks s 0) 0 ≡ get_or leads (get_or blocks t 0) 0 = omega arith in
                  let s_block : get_or blocks (get_or leads (get_or blocks s 0) 0) 0 ≡ get_or blocks s 0 = (lead_of s s_in).member in
                  let t_block : get_or blocks (get_or leads (get_or blocks t 0) 0) 0 ≡ get_or blocks t 0 = (lead_of t t_in).member in (
                    sym s_block ∙ ap (λ l. get_or blocks l 0) one ∙ t_block,
                    λ u there. (
                      λ e. absurd (s_absent (subst (Contains apart) (sym e) there)),
                      λ e. absurd (t_absent (subst (Contains apart) (sym e) there)),
                    ),
                  )
            ]
      ]
    where
      same_symbol : (s t : ℕ) → s ≡ t → AreShared blocks apart s t
      same_symbol s t e = (ap (λ r. get_or blocks r 0) e, λ u there. (λ s_is. sym e ∙ s_is, λ t_is. e ∙ t_is))

  same_blocks : (s t : ℕ) → s < length blocks → t < length blocks → AreShared blocks apart s t
      → Together (blocks_now apart beside numbers blocks) s t
  same_blocks s t s_in t_in both =
      elim (in_or_not apart s) [
        | inl s_there ↦ ap (λ r. get_or (blocks_now apart beside numbers blocks) r 0) (sym ((both.1 s (contained apart s s_there.0 s_there.1)).0 refl))
        | inr s_absent ↦ elim (in_or_not apart t) [
          | inl t_there ↦ ap (λ r. get_or (blocks_now apart beside numbers blocks) r 0) ((both.1 t (contained apart t t_there.0 t_there.1)).1 refl)
          | inr t_absent ↦
              one_place least (get_or (blocks_now apart beside numbers blocks) s 0) (get_or (blocks_now apart beside numbers blocks) t 0) least_ascending
              (is_counted s s_in) (is_counted t t_in)
              ((put_among s s_in s_absent).leader_is ∙ ap (λ b. get_or leads b 0) both.0 ∙ sym (put_among t t_in t_absent).leader_is)
        ]
      ]

  pub layers : (next : List (Option ℕ)) → IsLinked blocks next → IsLayered blocks first next apart beside numbers least
  layers next linked =
      let len = length-blocks_now apart beside numbers blocks in
      let few = shared.few in
      let some = shared.partition.some_symbol in
      let lead_len = lead_places.len in
      record {
        shared = shared;
        linked = linked;
        ascending = ascending;
        within = within;
        beside_len = apart_places.len;
        numbers_len = omega arith;
        numbered = numbered_by_rank (blocks_now apart beside numbers blocks) least (omega arith) (omega arith) ranked;
        together = λ s t s_in t_in. (same_leaders s t s_in t_in, same_blocks s t s_in t_in);
      }
