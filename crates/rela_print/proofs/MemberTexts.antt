-- The texts of members are read as these members.
use Rattle.std.proofs.Common.{◌≡◌, ℕ, zero, suc, ◌+◌, ◌≤◌, ◌<◌, Some, List, [], ◌∷◌, ◌++◌, refl, sym, ap, ◌∙◌, subst, inl, inr, arith, codes}
use Rattle.std.specs.Prelude.{⊤}
use Rattle.rela_names.specs.Name.{IsName}
use Rattle.rela_lex.specs.declared.token.Token.{Token}
use Rattle.rela_locations.specs.declared.members.By.{By}
use Rattle.rela_locations.specs.declared.members.By.TheVariants as by
use Rattle.rela_spec.specs.GrammarWords.{Named, mark, word, name}
use Rattle.rela_spec.specs.GrammarPaths.{picked_by, picked, a_member}
use Rattle.rela_print.specs.Members.{by_opening, member_text}
use Rattle.rela_print.specs.Names.{name_text}
use Rattle.rela_spec.specs.Phrases.{Phrase, done, ◌>>=◌, ◌>>◌, bracketed}
use Rattle.rela_print.specs.SameTree.{member_at_zero}
use Rattle.rela_spec.specs.declared.tree.Member.{Member}
use Rattle.rela_spec.specs.declared.tree.Member.TheVariants as member
use Rattle.rela_print.proofs.Sources.{Sourced, sourced_then, sourced_or, sourced_done, sourced_bracketed, sourced_mark, sourced_word, sourced_name}
use Rattle.rela_print.proofs.TextPieces.{Tame, tame_join, Reads, Free, Stops, reads_then, reads_as}
use Rattle.rela_print.proofs.TokenTexts.{Whatever, IsNameOf, reads_mark, reads_word, reads_name}

pub closing : (k : ℕ) → Some (k + 1) ≡ Some (suc k)
closing k = ap Some (omega arith)

-- the same text before a rest that is asked more of
pub reads_before : {A : Type 0} {R : Phrase A} {t : List ℕ} {P : A → Type 0} {K : List Token → Type 0} → Reads Free R t P K → Reads Stops R t P K
reads_before first = record { found = λ at rest c. first.found at rest tt }

-- with room for m brackets and more the member's text is read as the member
pub record GoodMember (m : ℕ) (v : Member) : Type 0 where
  pub reads : (n : ℕ) → m ≤ n → Reads Stops (a_member n) (member_text v) (λ w. member_at_zero w ≡ member_at_zero v) (Tame n n)

abbrev by_word : By → List ℕ
by_word by.Interface = codes "interface"
by_word by.Device = codes "device"
by_word by.Group = codes "group"
by_word by.Tag = codes "tag"

opening_is : (b : By) (t : List ℕ) → by_word b ++ 40 ∷ t ≡ by_opening b ++ t
opening_is by.Interface t = refl
opening_is by.Device t = refl
opening_is by.Group t = refl
opening_is by.Tag t = refl

reads_by : {m : ℕ} (b : By) → Reads Stops picked_by (by_word b) (λ c. c ≡ b) (Tame m m)
unfolding picked_by
reads_by by.Interface = reads_as (λ _. by.Interface) (λ _ _. refl) (λ a v b h. inl (tt, b, h, (refl, refl))) (reads_word (codes "interface") refl refl)
reads_by by.Device = reads_as (λ _. by.Device) (λ _ _. refl) (λ a v b h. inr (inl (tt, b, h, (refl, refl)))) (reads_word (codes "device") refl refl)
reads_by by.Group = reads_as (λ _. by.Group) (λ _ _. refl) (λ a v b h. inr (inr (inl (tt, b, h, (refl, refl))))) (reads_word (codes "group") refl refl)
reads_by by.Tag = reads_as (λ _. by.Tag) (λ _ _. refl) (λ a v b h. inr (inr (inr (tt, b, h, (refl, refl))))) (reads_word (codes "tag") refl refl)

abbrev name_inside : ℕ → Phrase Named
name_inside n = bracketed n (mark 40) λ _. name >>= λ n. mark 41 >> done n

reads_name_inside : (k : ℕ) (text : List ℕ) → IsName text → Reads Free (name_inside (suc k)) (40 ∷ (name_text text ++ 41 ∷ [])) (IsNameOf text) (Tame (suc k) (suc k))
reads_name_inside k text is =
    reads_then {C = Free} {D = Free} {R = mark 40} {S = λ _. name >>= λ n. mark 41 >> done n} {P = Whatever} {Q = IsNameOf text} (λ rest c. tt) tame_join (reads_mark {m = suc k} {n = k} 40 refl refl refl refl) λ _ _.
    reads_then {C = Stops} {D = Free} {R = name} {S = λ n. mark 41 >> done n} {P = IsNameOf text} {Q = IsNameOf text} (λ rest c. refl) tame_join (reads_name {m = k} text is) λ n p.
    reads_as (λ _. n) (λ _ _. p) (λ a v b h. (tt, b, h, (refl, refl))) (reads_mark {m = k} {n = suc k} 41 refl (closing k) refl refl)

reads_picked : (n : ℕ) → 0 < n → (b : By) (text : List ℕ) (at : ℕ) → IsName text
    → Reads Free (picked n) (by_opening b ++ (name_text text ++ 41 ∷ [])) (λ w. member_at_zero w ≡ member.Within b text 0) (Tame n n)
unfolding picked
reads_picked zero some b text at is = absurd (omega arith)
reads_picked (suc k) some b text at is =
    subst (λ (t : List ℕ). Reads Free (picked (suc k)) t (λ w. member_at_zero w ≡ member.Within b text 0) (Tame (suc k) (suc k))) (opening_is b (name_text text ++ 41 ∷ []))
    (reads_then {C = Stops} {D = Free} {R = picked_by} {S = λ c. name_inside (suc k) >>= λ n. done (member.Within c n.name n.at)} {P = λ c. c ≡ b} {Q = λ w. member_at_zero w ≡ member.Within b text 0}
    (λ rest c. refl) tame_join (reads_by {m = suc k} b) λ c same.
    reads_as (λ (n : Named). member.Within c n.name n.at) (λ n p. ap (λ (x : By). member.Within x n.name 0) same ∙ ap (λ (x : List ℕ). member.Within b x 0) p)
    (λ a n b h. (n, b, h, (refl, refl))) (reads_name_inside k text is))

pub good_drop : (m : ℕ) → GoodMember m member.Drop
unfolding member_text a_member
good_drop m = record { reads = λ n le. reads_as (λ _. member.Drop) (λ _ _. refl) (λ a v b h. inl (tt, b, h, (refl, refl))) (reads_word (codes "drop") refl refl) }

pub good_loop : (m : ℕ) → GoodMember m member.Loop
unfolding member_text a_member
good_loop m = record { reads = λ n le. reads_as (λ _. member.Loop) (λ _ _. refl) (λ a v b h. inr (inl (tt, b, h, (refl, refl)))) (reads_word (codes "loop") refl refl) }

pub good_here : (m : ℕ) (text : List ℕ) (at : ℕ) → IsName text → GoodMember m (member.Here text at)
unfolding member_text a_member
good_here m text at is = record {
  reads = λ n le. reads_as (λ (x : Named). member.Here x.name x.at) (λ x p. ap (λ (y : List ℕ). member.Here y 0) p) (λ a x b h. inr (inr (inr (x, b, h, (refl, refl))))) (reads_name text is);
}

pub good_within : (m : ℕ) (b : By) (text : List ℕ) (at : ℕ) → 0 < m → IsName text → GoodMember m (member.Within b text at)
unfolding member_text a_member
good_within m b text at some is = record {
  reads = λ n le. reads_as (λ (w : Member). w) (λ w p. p) (λ a w b h. inr (inr (inl h))) (reads_before (reads_picked n (omega arith) b text at is));
}

sourced_by : {m : ℕ} → Sourced m m picked_by (λ _. ⊤)
unfolding picked_by
sourced_by = sourced_or (one (codes "interface") by.Interface) (sourced_or (one (codes "device") by.Device) (sourced_or (one (codes "group") by.Group) (one (codes "tag") by.Tag)))
  where
    one : {m : ℕ} (w : List ℕ) (b : By) → Sourced m m (word w >> done b) (λ _. ⊤)
    one w b = sourced_then (sourced_word w) λ _ _. sourced_done b tt

record PickedName (m : ℕ) (n : Named) : Type 0 where
  some : 0 < m
  is : IsName n.name

sourced_picked : (r m : ℕ) → Sourced m m (picked r) (GoodMember m)
unfolding picked
sourced_picked r m =
    sourced_then sourced_by λ b _. sourced_then
    (sourced_bracketed {P = PickedName m} r 40 (λ _. name >>= λ n. mark 41 >> done n) refl λ s k _ e.
    sourced_then sourced_name λ n is. sourced_then (sourced_mark 41 (closing k ∙ ap Some (sym e))) λ _ _. sourced_done n (record { some = omega (arith, e); is = is }))
    λ n p. sourced_done (member.Within b n.name n.at) (good_within m b n.name n.at p.some p.is)

pub sourced_member : (r m : ℕ) → Sourced m m (a_member r) (GoodMember m)
unfolding a_member
sourced_member r m =
    sourced_or (sourced_then (sourced_word (codes "drop")) λ _ _. sourced_done member.Drop (good_drop m))
    (sourced_or (sourced_then (sourced_word (codes "loop")) λ _ _. sourced_done member.Loop (good_loop m))
    (sourced_or (sourced_picked r m) (sourced_then sourced_name λ n is. sourced_done (member.Here n.name n.at) (good_here m n.name n.at is))))
