-- The least symbols of the blocks of partitions over a shared one, and the partitions that are made so.
use Rattle.std.proofs.Common.{◌≡◌, ℕ, ◌^◌, ◌<◌, ◌≤◌, ◌↔◌, ◌⊎◌, List, length, get_or, Option, inl, inr, arith, sym, ap, subst, ◌∙◌}
use Rattle.std.proofs.lemmas.List.{get_or_default}
use Rattle.std.proofs.lemmas.List.Elements.{Contains-get_or}
use Rattle.std.proofs.lemmas.Map.Views.{length-le_from_below}
use Rattle.std.specs.List.{All, Contains}
use Rattle.rela_labels.specs.Apart.{IsAscending, IsLinked, IsLead, blocks_now, ArePlaces, IsLayered}
use Rattle.rela_labels.specs.Partition.{block_count, IsPartition, IsNumbered, Together}
use Rattle.rela_labels.specs.declared.base.Base.{Base}
use Rattle.rela_labels.proofs.BlocksInOrder.{within_count}
use Rattle.rela_labels.proofs.AscendingLists.{at_of}
use Rattle.rela_labels.proofs.ApartBlocks.{length-blocks_now, block_now, number_there, number_elsewhere, layers}

-- the least symbols are few, whatever lends them
pub few_least : (blocks first apart leads least lent lent_leads : List ℕ) → IsNumbered blocks first → All (λ s. s < length blocks) apart
    → length leads ≡ length first → ((b : ℕ) → b < length first → IsLead blocks apart b (get_or leads b 0)) → IsAscending least
    → ((s : ℕ) → Contains least s ↔ (Contains apart s ⊎ Contains lent_leads s)) → lent_leads ≡ leads → lent ≡ least → length lent < 2 ^ 32
few_least blocks first apart leads least lent lent_leads shared within len led ascending members leads_is lent_is =
    let few = shared.few in
    let short : length least ≤ length blocks = length-le_from_below (length blocks) least ascending (λ k d k_in.
    let at : get_or least k d ≡ get_or least k 0 = get_or_default least k d 0 k_in in
    let below : get_or least k 0 < length blocks = elim ((members (get_or least k 0)).0 (Contains-get_or least k 0 k_in)) [
      | inl there ↦
          let place = at_of apart (get_or least k 0) there in
          subst (λ s. s < length blocks) place.1.at (within place.0 0 place.1.within)
      | inr there ↦
          let place = at_of leads (get_or least k 0) (subst (λ ls. Contains ls (get_or least k 0)) leads_is there) in
          let place_in = place.1.within in
          subst (λ s. s < length blocks) place.1.at ((led place.0 (omega arith)).within)
    ] in
    omega arith) in
    let lent_len : length lent ≡ length least = ap length lent_is in
    omega arith

-- the symbols of both lists stand in their union
pub first_there : (first second all lent : List ℕ) → ((s : ℕ) → Contains all s ↔ (Contains first s ⊎ Contains second s)) → lent ≡ all
    → All (Contains lent) first
first_there first second all lent members lent_is = λ k d within.
    subst (λ xs. Contains xs (get_or first k d)) (sym lent_is) ((members (get_or first k d)).1 (inl (Contains-get_or first k d within)))

pub second_there : (first second all lent again : List ℕ) → ((s : ℕ) → Contains all s ↔ (Contains first s ⊎ Contains second s)) → lent ≡ all
    → again ≡ second → All (Contains lent) again
second_there first second all lent again members lent_is again_is = λ k d within.
    subst (λ xs. Contains xs (get_or again k d)) (sym lent_is)
    ((members (get_or again k d)).1 (inr (subst (λ xs. Contains xs (get_or again k d)) again_is (Contains-get_or again k d within))))

pub made_layers : (blocks first apart leads least beside numbers lent_leads again_leads lent_least again_least : List ℕ) (next : List (Option ℕ))
    → IsNumbered blocks first → IsLinked blocks next → IsAscending apart → All (λ s. s < length blocks) apart
    → length leads ≡ length first → ((b : ℕ) → b < length first → IsLead blocks apart b (get_or leads b 0)) → IsAscending least
    → ((s : ℕ) → Contains least s ↔ (Contains apart s ⊎ Contains lent_leads s)) → lent_leads ≡ leads
    → lent_least ≡ least → ArePlaces lent_least apart beside → again_least ≡ least → again_leads ≡ leads → ArePlaces again_least again_leads numbers
    → IsLayered blocks first next apart beside numbers least
made_layers blocks first apart leads least beside numbers lent_leads again_leads lent_least again_least next shared linked ascending within len led
    least_ascending members leads_is least_is beside_places again_is again_leads_is number_places =
    layers blocks first apart leads least beside numbers shared ascending within len led least_ascending
    (subst (λ ls. (s : ℕ) → Contains least s ↔ (Contains apart s ⊎ Contains ls s)) leads_is members)
    (subst (λ xs. ArePlaces xs apart beside) least_is beside_places)
    (subst (λ xs. ArePlaces xs leads numbers) again_is (subst (λ ls. ArePlaces again_least ls numbers) again_leads_is number_places)) next linked

-- what a reader of the parts learns of the value
pub size_of_value : (apart beside numbers blocks value : List ℕ) → blocks_now apart beside numbers blocks ≡ value → length value ≡ length blocks
size_of_value apart beside numbers blocks value shown = sym (ap length shown) ∙ length-blocks_now apart beside numbers blocks

pub base_block : (blocks first : List ℕ) (next : List (Option ℕ)) (apart beside numbers least value : List ℕ) (s b : ℕ)
    → IsLayered blocks first next apart beside numbers least → blocks_now apart beside numbers blocks ≡ value → s < length value
    → b ≡ get_or blocks s b → b < length numbers
base_block blocks first next apart beside numbers least value s b is shown within read =
    let len = size_of_value apart beside numbers blocks value shown in
    let s_in : s < length blocks = omega arith in
    let b_is : b ≡ get_or blocks s 0 = read ∙ get_or_default blocks s b 0 s_in in
    let counted = is.shared.counted s s_in in
    let numbers_len = is.numbers_len in
    omega arith

pub record IsBlockOf (value : List ℕ) (s n : ℕ) : Type 0 where
  pub block : n ≡ get_or value s 0
  pub below : n < block_count value

pub block_among : (blocks first : List ℕ) (next : List (Option ℕ)) (apart beside numbers least value lent : List ℕ) (s b n : ℕ)
    → IsLayered blocks first next apart beside numbers least → blocks_now apart beside numbers blocks ≡ value → s < length value
    → lent ≡ apart → (Contains lent s → ⊥) → b ≡ get_or blocks s b → n ≡ get_or numbers b n → IsBlockOf value s n
block_among blocks first next apart beside numbers least value lent s b n is shown within lent_is not_there read again =
    let len = size_of_value apart beside numbers blocks value shown in
    let s_in : s < length blocks = omega arith in
    let b_is : b ≡ get_or blocks s 0 = read ∙ get_or_default blocks s b 0 s_in in
    let b_in = base_block blocks first next apart beside numbers least value s b is shown within read in
    let n_is : n ≡ get_or value s 0 =
    again ∙ get_or_default numbers b n 0 b_in ∙ ap (λ b. get_or numbers b 0) b_is
    ∙ sym (number_elsewhere apart beside s (get_or numbers (get_or blocks s 0) 0) (λ there. not_there (subst (λ xs. Contains xs s) (sym lent_is) there)))
    ∙ sym (block_now apart beside numbers blocks s s_in) ∙ ap (λ bs. get_or bs s 0) shown in
    let counted = within_count value s within in
    record { block = n_is; below = omega arith }

pub block_apart : (blocks first : List ℕ) (next : List (Option ℕ)) (apart beside numbers least value lent : List ℕ) (s i n : ℕ)
    → IsLayered blocks first next apart beside numbers least → blocks_now apart beside numbers blocks ≡ value → s < length value
    → lent ≡ apart → (i < length lent) × (get_or lent i 0 ≡ s) → n ≡ get_or beside i n → IsBlockOf value s n
block_apart blocks first next apart beside numbers least value lent s i n is shown within lent_is there read =
    let len = size_of_value apart beside numbers blocks value shown in
    let s_in : s < length blocks = omega arith in
    let lent_len : length lent ≡ length apart = ap length lent_is in
    let i_within = there.0 in
    let i_in : i < length apart = omega arith in
    let beside_len = is.beside_len in
    let n_is : n ≡ get_or value s 0 =
    read ∙ get_or_default beside i n 0 (omega arith)
    ∙ sym (number_there apart beside s (get_or numbers (get_or blocks s 0) 0) i is.beside_len is.ascending i_in
    (ap (λ xs. get_or xs i 0) (sym lent_is) ∙ there.1))
    ∙ sym (block_now apart beside numbers blocks s s_in) ∙ ap (λ bs. get_or bs s 0) shown in
    let counted = within_count value s within in
    record { block = n_is; below = omega arith }

-- the symbols that were apart and those that come to them
pub all_within : (blocks first : List ℕ) (next : List (Option ℕ)) (apart beside numbers least value lent symbols all lent_all : List ℕ)
    → IsLayered blocks first next apart beside numbers least → blocks_now apart beside numbers blocks ≡ value → All (λ s. s < length value) symbols
    → lent ≡ apart → ((s : ℕ) → Contains all s ↔ (Contains lent s ⊎ Contains symbols s)) → lent_all ≡ all → All (λ s. s < length blocks) lent_all
all_within blocks first next apart beside numbers least value lent symbols all lent_all is shown within lent_is members all_is =
    let len = size_of_value apart beside numbers blocks value shown in
    subst (All (λ s. s < length blocks)) (sym all_is) (λ k d k_in.
    elim ((members (get_or all k d)).0 (Contains-get_or all k d k_in)) [
      | inl there ↦
          let place = at_of apart (get_or all k d) (subst (λ xs. Contains xs (get_or all k d)) lent_is there) in
          subst (λ s. s < length blocks) place.1.at (is.within place.0 0 place.1.within)
      | inr there ↦
          let place = at_of symbols (get_or all k d) there in
          let below : get_or symbols place.0 0 < length blocks = let below = within place.0 0 place.1.within in omega arith in
          subst (λ s. s < length blocks) place.1.at below
    ])

-- the value with more symbols apart, beside the old one
pub record IsAlone (value more new : List ℕ) : Type 0 where
  pub symbols : length new ≡ length value
  pub partition : IsPartition new
  pub together : (s t : ℕ) → s < length value → t < length value
      → Together new s t ↔ (Together value s t × ((u : ℕ) → Contains more u → (s ≡ u) ↔ (t ≡ u)))

alone : (blocks first : List ℕ) (next : List (Option ℕ)) (apart beside numbers least value lent symbols all beside' numbers' least' : List ℕ)
    → IsLayered blocks first next apart beside numbers least → blocks_now apart beside numbers blocks ≡ value
    → IsLayered blocks first next all beside' numbers' least' → lent ≡ apart
    → ((s : ℕ) → Contains all s ↔ (Contains lent s ⊎ Contains symbols s)) → IsAlone value symbols (blocks_now all beside' numbers' blocks)
alone blocks first next apart beside numbers least value lent symbols all beside' numbers' least' old shown new lent_is members =
    let len = size_of_value apart beside numbers blocks value shown in
    record {
      symbols = length-blocks_now all beside' numbers' blocks ∙ sym len;
      partition = new.numbered.partition;
      together = λ s t s_in t_in. (
        λ same.
            let both = (new.together s t (omega arith) (omega arith)).0 same in (
              subst (λ bs. Together bs s t) shown
                  ((old.together s t (omega arith) (omega arith)).1
                  (both.0, λ u there. both.1 u ((members u).1 (inl (subst (λ xs. Contains xs u) (sym lent_is) there))))),
              λ u there. both.1 u ((members u).1 (inr there)),
            ),
        λ both.
            let before = (old.together s t (omega arith) (omega arith)).0 (subst (λ bs. Together bs s t) (sym shown) both.0) in
            (new.together s t (omega arith) (omega arith)).1 (
              before.0,
              λ u there. elim ((members u).0 there) [
                | inl old_there ↦ before.1 u (subst (λ xs. Contains xs u) lent_is old_there)
                | inr new_there ↦ both.1 u new_there
              ],
            ),
      );
    }

-- the same with the parts as calls give them
pub alone_by_calls : (base lent copy : Base) (apart beside numbers least value lent_apart more all lent_all beside' numbers' least' : List ℕ)
    → IsLayered base.blocks.items base.first.items base.next.items apart beside numbers least
    → blocks_now apart beside numbers base.blocks.items ≡ value → lent ≡ base → copy ≡ base → lent_all ≡ all
    → IsLayered lent.blocks.items lent.first.items lent.next.items lent_all beside' numbers' least' → lent_apart ≡ apart
    → ((s : ℕ) → Contains all s ↔ (Contains lent_apart s ⊎ Contains more s)) → IsAlone value more (blocks_now all beside' numbers' copy.blocks.items)
alone_by_calls base lent copy apart beside numbers least value lent_apart more all lent_all beside' numbers' least' old shown lent_is copy_is all_is new
    apart_is members =
    subst (λ (b : Base). IsAlone value more (blocks_now all beside' numbers' b.blocks.items)) (sym copy_is)
    (alone base.blocks.items base.first.items base.next.items apart beside numbers least value lent_apart more all beside' numbers' least' old shown
    (subst (λ (b : Base). IsLayered b.blocks.items b.first.items b.next.items all beside' numbers' least') lent_is
    (subst (λ xs. IsLayered lent.blocks.items lent.first.items lent.next.items xs beside' numbers' least') all_is new))
    apart_is members)
