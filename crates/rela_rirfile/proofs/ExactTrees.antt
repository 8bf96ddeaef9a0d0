-- Sets, relations and what is asserted are read exactly.
use Rattle.std.proofs.Common.{◌≡◌, ℕ, zero, suc, ◌≤◌, Bool, ◌||◌, Err, List, [], ◌∷◌, ◌++◌, refl, sym, subst, inl, inr, arith, append_assoc}
use Rattle.std.specs.Prelude.{codes}
use Rattle.rela_lex.specs.declared.error.SpecError.TheVariants.{Memory}
use Rattle.rela_lex.specs.declared.token.Token.{Token}
use Rattle.rela_lex.specs.declared.token.TokenKind.{TokenKind}
use Rattle.rela_lex.specs.declared.token.TokenKind.TheVariants.{Mark}
use Rattle.rela_spec.specs.GrammarWords.{mark}
use Rattle.rela_spec.specs.Keywords.{is_keyword, is_item_word, is_member_word, is_modifier_word, is_joining_word, is_predicate_word}
use Rattle.rela_spec.specs.Phrases.{Phrase, done, bracketed, ◌>>=◌, ◌>>◌}
use Rattle.rela_spec.specs.ReadWords.{is_word_of, read_mark}
use Rattle.rela_spec.specs.Readings.{Reading, and_read, read_done}
use Rattle.rela_rirfile.specs.Grammar.{one, two, plain, inner_set, inner_rel, a_set, a_rel, inner_tree, a_tree}
use Rattle.rela_rirfile.specs.Keywords.{is_reserved, is_assertion_word, is_set_word, is_relation_word}
use Rattle.rela_rirfile.specs.ReadTrees.{read_one, read_two, read_plain, read_set_over, read_rel_over, set_inside, rel_inside, read_set, read_rel, read_one_set, read_two_sets, read_set_and_rel, read_one_rel, read_two_rels, read_tree_over, tree_inside, read_tree, read_one_tree, read_two_trees}
use Rattle.rela_rirfile.specs.declared.written.AssertExpr.{AssertExpr}
use Rattle.rela_rirfile.specs.declared.written.AssertExpr.TheVariants as assertion
use Rattle.rela_rirfile.specs.declared.written.RelExpr.{RelExpr}
use Rattle.rela_rirfile.specs.declared.written.RelExpr.TheVariants as rel
use Rattle.rela_rirfile.specs.declared.written.PathExpr.{PathExpr}
use Rattle.rela_rirfile.specs.declared.written.PathExpr.TheVariants as set
use Rattle.rela_rirfile.proofs.Exact.{Completed, Exact}
use Rattle.rela_rirfile.proofs.Then.{exact_then}
use Rattle.rela_rirfile.proofs.Choose.{exact_done, exact_as, weaken}
use Rattle.rela_rirfile.proofs.ExactWords.{nothing, follows_nothing}
use Rattle.rela_rirfile.proofs.ExactMembers.{starts_member, led_member}
use Rattle.rela_rirfile.proofs.Leading.{Leading, behind_mark, led_word, or_word, make_of, led_make, closed_by, led_open, closes_to, call_or, call_first}

completed_then : {A B : Type 0} (R : ℕ → Phrase A) (S : A → ℕ → Phrase B) (least : ℕ) → Completed R least → ((v : A) → Completed (S v) least) → Completed (λ d. R d >>= λ v. S v d) least
completed_then R S least first second =
    let more = second first.value in
    record {
      others = first.others ++ more.others;
      value = more.value;
      whole = λ d le k. (first.value, more.others ++ k, subst (λ (x : List Token). R d x first.value (more.others ++ k)) (sym (append_assoc first.others more.others k)) (first.whole d le (more.others ++ k)), more.whole d le k);
    }

a_mark : (byte least : ℕ) → Completed (λ d. mark byte) least
a_mark byte least = record { others = record { at = 0; kind = Mark byte } ∷ []; value = tt; whole = λ d le k. (record { at = 0; kind = Mark byte }, refl, refl) }

nothing_more : {A : Type 0} (v : A) (least : ℕ) → Completed (λ d. done v) least
nothing_more v least = record { others = []; value = v; whole = λ d le k. (refl, refl) }

sooner : {A : Type 0} (R : ℕ → Phrase A) (few least : ℕ) → few ≤ least → Completed R few → Completed R least
sooner R few least le c = record { others = c.others; value = c.value; whole = λ d far k. c.whole d (omega arith) k }

-- A phrase, and what it is in brackets of which one is open already.
pub record IsInner {A : Type 0} (R inner : ℕ → Phrase A) : Type 0 where
  pub on : (d : ℕ) (a : List Token) (v : A) (b : List Token) → R d a v b → inner (suc d) a v b
  pub back : (d : ℕ) (a : List Token) (v : A) (b : List Token) → inner (suc d) a v b → R d a v b

-- it is read exactly in brackets
abbrev pub Inside : {A : Type 0} → (ℕ → Phrase A) → (least room end : ℕ) → Reading A → Type 0
Inside R least room end p = (inner : ℕ) → room ≡ suc inner → Exact R nothing least inner inner inner end p

module _ {A : Type 0} (R inR : ℕ → Phrase A) (is : IsInner R inR) (few least : ℕ) (le : few ≤ least) (small : least ≤ 3) (completed : Completed R few) (end : ℕ) where
  abbrev closed : ℕ → Phrase A
  closed d = R d >>= λ v. mark 41 >> done v

  closed_completed : Completed closed least
  closed_completed =
      completed_then R (λ v d. mark 41 >> done v) least (sooner R few least le completed) (λ v. completed_then (λ d. mark 41) (λ _ d. done v) least (a_mark 41 least) (λ _. nothing_more v least))

  to_one : (d : ℕ) (a : List Token) (v : A) (b : List Token) → bracketed d (mark 40) closed a v b → one d (inR d) a v b
  to_one zero a v b h = h
  to_one (suc d) a v b h = (h.0, h.1, h.2, (h.3.0, h.3.1, is.on d h.1 h.3.0 h.3.1 h.3.2, h.3.3))

  from_one : (d : ℕ) (a : List Token) (v : A) (b : List Token) → one d (inR d) a v b → bracketed d (mark 40) closed a v b
  from_one zero a v b h = h
  from_one (suc d) a v b h = (h.0, h.1, h.2, (h.3.0, h.3.1, is.back d h.1 h.3.0 h.3.1 h.3.2, h.3.3))

  pub exact_one : (room : ℕ) (p : Reading A) → Inside R few room end p → Exact (λ d. one d (inR d)) nothing (suc least) room room room end (read_one end room p)
  exact_one room p inside =
      let opened = led_open 40 refl small closed_completed
      (λ inner e. closed_by (λ v. v) 41 room nothing (omega (arith, small)) (weaken R p nothing nothing few least inner inner inner end le (λ b h. h) (inside inner e)) (closes_to inner room e) refl)
      in
      exact_as (λ d. bracketed d (mark 40) closed) (λ d. one d (inR d)) (read_one end room p) nothing (suc least) room room room end to_one from_one opened.exact

module _ {A B : Type 0} (R inR : ℕ → Phrase A) (is : IsInner R inR) (S inS : ℕ → Phrase B) (is_too : IsInner S inS) (few many least : ℕ) (le : few ≤ least) (le_too : many ≤ least) (small : least ≤ 3)
    (completed : Completed R few) (completed_too : Completed S many) (end : ℕ) where
  abbrev second_of : A → ℕ → Phrase (A × B)
  second_of a d = mark 44 >> (S d >>= λ b. mark 41 >> done (a, b))

  abbrev both : ℕ → Phrase (A × B)
  both d = R d >>= λ a. second_of a d

  both_completed : Completed both least
  both_completed =
      completed_then R second_of least (sooner R few least le completed) (λ a. completed_then (λ d. mark 44) (λ _ d. S d >>= λ b. mark 41 >> done (a, b)) least (a_mark 44 least)
      (λ _. completed_then S (λ b d. mark 41 >> done (a, b)) least (sooner S many least le_too completed_too)
      (λ b. completed_then (λ d. mark 41) (λ _ d. done (a, b)) least (a_mark 41 least) (λ _. nothing_more (a, b) least))))

  to_two : (d : ℕ) (a : List Token) (v : A × B) (b : List Token) → bracketed d (mark 40) both a v b → two d (inR d) (inS d) a v b
  to_two zero a v b h = h
  to_two (suc d) a v b h =
      let p = h.3 in let q = p.3 in let r = q.3 in
      (h.0, h.1, h.2, (p.0, p.1, is.on d h.1 p.0 p.1 p.2, (q.0, q.1, q.2, (r.0, r.1, is_too.on d q.1 r.0 r.1 r.2, r.3))))

  from_two : (d : ℕ) (a : List Token) (v : A × B) (b : List Token) → two d (inR d) (inS d) a v b → bracketed d (mark 40) both a v b
  from_two zero a v b h = h
  from_two (suc d) a v b h =
      let p = h.3 in let q = p.3 in let r = q.3 in
      (h.0, h.1, h.2, (p.0, p.1, is.back d h.1 p.0 p.1 p.2, (q.0, q.1, q.2, (r.0, r.1, is_too.back d q.1 r.0 r.1 r.2, r.3))))

  both_inside : (room : ℕ) (p : Reading A) (q : Reading B) → Inside R few room end p → Inside S many room end q → (inner : ℕ) → room ≡ suc inner
      → Exact both nothing least inner inner room end
      (λ ts. and_read (p ts) (λ a ts. and_read (read_mark end 44 ts) (λ _ ts. and_read (q ts) (λ b ts. and_read (read_mark end 41 ts) (λ _. read_done (a, b))))))
  both_inside room p q first second inner e =
      exact_then R second_of nothing nothing least inner inner inner room end p
      (λ a ts. and_read (read_mark end 44 ts) (λ _ ts. and_read (q ts) (λ b ts. and_read (read_mark end 41 ts) (λ _. read_done (a, b))))) (omega (arith, small))
      (weaken R p nothing nothing few least inner inner inner end le (λ b h. h) (first inner e))
      (λ a. behind_mark 44 inner (omega (arith, small)) refl
      (closed_by (λ b. (a, b)) 41 room nothing (omega (arith, small)) (weaken S q nothing nothing many least inner inner inner end le_too (λ b h. h) (second inner e)) (closes_to inner room e) refl))
      (follows_nothing second_of nothing)

  pub exact_two : (room : ℕ) (p : Reading A) (q : Reading B) → Inside R few room end p → Inside S many room end q
      → Exact (λ d. two d (inR d) (inS d)) nothing (suc least) room room room end (read_two end room p q)
  exact_two room p q first second =
      let opened = led_open 40 refl small both_completed (both_inside room p q first second) in
      exact_as (λ d. bracketed d (mark 40) both) (λ d. two d (inR d) (inS d)) (read_two end room p q) nothing (suc least) room room room end to_two from_two opened.exact

set_is_inner : IsInner a_set inner_set
unfolding a_set inner_set
set_is_inner = record { on = λ d a v b h. h; back = λ d a v b h. h }

rel_is_inner : IsInner a_rel inner_rel
unfolding a_rel inner_rel
rel_is_inner = record { on = λ d a v b h. h; back = λ d a v b h. h }

tree_is_inner : IsInner a_tree inner_tree
unfolding a_tree inner_tree
tree_is_inner = record { on = λ d a v b h. h; back = λ d a v b h. h }

-- no room for a bracket
nowhere : {A : Type 0} (R : ℕ → Phrase A) (least end : ℕ) (p : Reading A) → Inside R least 0 end p
nowhere R least end p inner e = absurd (omega (arith, e))

same_less : (n m : ℕ) → suc n ≡ suc m → n ≡ m
same_less n m e = omega arith

-- where one more may be opened, what stands inside is read as with one less
one_less_inside : {A : Type 0} (R : ℕ → Phrase A) (least room end : ℕ) (p : Reading A) → Exact R nothing least room room room end p → Inside R least (suc room) end p
one_less_inside R least room end p exact inner e = subst (λ (n : ℕ). Exact R nothing least n n n end p) (same_less room inner e) exact

module _ (end : ℕ) where
  abbrev starts_plain : TokenKind → Bool
  starts_plain kind =
      is_word_of (codes "none") kind || (is_word_of (codes "eps") kind || (is_word_of (codes "pre") kind
      || (is_word_of (codes "post") kind || (is_word_of (codes "all") kind || starts_member end kind))))

  led_plain : (room : ℕ) → Leading (λ d. plain d) starts_plain nothing 0 room room room end (read_plain end room)
  unfolding plain read_plain is_reserved is_assertion_word is_set_word is_relation_word is_keyword is_item_word is_member_word is_modifier_word is_joining_word is_predicate_word
  led_plain room =
      or_word (codes "none") (omega arith) (exact_done set.None nothing 0 room room end)
      (or_word (codes "eps") (omega arith) (exact_done set.Empty nothing 0 room room end)
      (or_word (codes "pre") (omega arith) (exact_done set.Pre nothing 0 room room end)
      (or_word (codes "post") (omega arith) (exact_done set.Post nothing 0 room room end)
      (or_word (codes "all") (omega arith) (exact_done set.All nothing 0 room room end)
      (led_make (λ m. set.Member m) (omega arith) (led_member end room))
      refl)
      refl)
      refl)
      refl)
      refl

  set_completed : Completed a_set 0
  unfolding a_set
  set_completed =
      let c = (led_plain 0).exact.completed in
      record { others = c.others; value = c.value; whole = λ d le k. inr (inr (inr (inr (inr (inr (c.whole d le k)))))) }

  exact_one_set : (room : ℕ) (p : Reading PathExpr) → Inside a_set 0 room end p → Exact (λ d. one d (inner_set d)) nothing 1 room room room end (read_one end room p)
  exact_one_set room p inside = exact_one a_set inner_set set_is_inner 0 0 (omega arith) (omega arith) set_completed end room p inside

  exact_two_sets : (room : ℕ) (p : Reading PathExpr) → Inside a_set 0 room end p → Exact (λ d. two d (inner_set d) (inner_set d)) nothing 1 room room room end (read_two end room p p)
  exact_two_sets room p inside =
      exact_two a_set inner_set set_is_inner a_set inner_set set_is_inner 0 0 0 (omega arith) (omega arith) (omega arith) set_completed set_completed end room p p inside inside

  rel_completed : Completed a_rel 1
  unfolding a_rel
  rel_completed =
      let c = (led_word (codes "identity") (omega arith) (make_of (λ v. rel.Identity v) (omega arith) (exact_one_set 0 (λ _. Err Memory) (nowhere a_set 0 end (λ _. Err Memory))))).exact.completed in
      record { others = c.others; value = c.value; whole = λ d le k. inl (c.whole d le k) }

  exact_one_rel : (room : ℕ) (p : Reading RelExpr) → Inside a_rel 1 room end p → Exact (λ d. one d (inner_rel d)) nothing 2 room room room end (read_one end room p)
  exact_one_rel room p inside = exact_one a_rel inner_rel rel_is_inner 1 1 (omega arith) (omega arith) rel_completed end room p inside

  exact_two_rels : (room : ℕ) (p : Reading RelExpr) → Inside a_rel 1 room end p → Exact (λ d. two d (inner_rel d) (inner_rel d)) nothing 2 room room room end (read_two end room p p)
  exact_two_rels room p inside =
      exact_two a_rel inner_rel rel_is_inner a_rel inner_rel rel_is_inner 1 1 1 (omega arith) (omega arith) (omega arith) rel_completed rel_completed end room p p inside inside

  exact_set_and_rel : (room : ℕ) (p : Reading PathExpr) (q : Reading RelExpr) → Inside a_set 0 room end p → Inside a_rel 1 room end q
      → Exact (λ d. two d (inner_set d) (inner_rel d)) nothing 2 room room room end (read_two end room p q)
  exact_set_and_rel room p q first second =
      exact_two a_set inner_set set_is_inner a_rel inner_rel rel_is_inner 0 1 1 (omega arith) (omega arith) (omega arith) set_completed rel_completed end room p q first second

  abbrev starts_set : TokenKind → Bool
  starts_set kind =
      is_word_of (codes "union") kind || (is_word_of (codes "concat") kind || (is_word_of (codes "meet") kind
      || (is_word_of (codes "star") kind || (is_word_of (codes "complement") kind || (is_word_of (codes "image") kind || starts_plain kind)))))

  led_set : (room : ℕ) (p : Reading PathExpr) (q : Reading RelExpr) → Inside a_set 0 room end p → Inside a_rel 1 room end q
      → Leading a_set starts_set nothing 0 room room room end (read_set_over end room p q)
  unfolding a_set is_reserved is_assertion_word is_set_word is_relation_word is_keyword is_item_word is_member_word is_modifier_word is_joining_word is_predicate_word
  led_set room p q first second =
      let sets = exact_two_sets room p first in
      let set_alone = exact_one_set room p first in
      call_or (codes "union") (omega arith) (make_of (λ x. set.Union x.0 x.1) (omega arith) sets)
      (call_or (codes "concat") (omega arith) (make_of (λ x. set.Concat x.0 x.1) (omega arith) sets)
      (call_or (codes "meet") (omega arith) (make_of (λ x. set.Meet x.0 x.1) (omega arith) sets)
      (call_or (codes "star") (omega arith) (make_of (λ v. set.Star v) (omega arith) set_alone)
      (call_or (codes "complement") (omega arith) (make_of (λ v. set.Complement v) (omega arith) set_alone)
      (call_or (codes "image") (omega arith) (make_of (λ x. set.Image x.0 x.1) (omega arith) (exact_set_and_rel room p q first second)) (led_plain room)
      refl)
      refl)
      refl)
      refl)
      refl)
      refl

  abbrev starts_rel : TokenKind → Bool
  starts_rel kind =
      is_word_of (codes "identity") kind || (is_word_of (codes "product") kind || (is_word_of (codes "star") kind
      || (is_word_of (codes "union") kind || (is_word_of (codes "concat") kind || is_word_of (codes "compose") kind))))

  led_rel : (room : ℕ) (p : Reading PathExpr) (q : Reading RelExpr) → Inside a_set 0 room end p → Inside a_rel 1 room end q
      → Leading a_rel starts_rel nothing 1 room room room end (read_rel_over end room p q)
  unfolding a_rel
  led_rel room p q first second =
      let rels = exact_two_rels room q second in
      call_first (codes "identity") (omega arith) (make_of (λ v. rel.Identity v) (omega arith) (exact_one_set room p first))
      (call_first (codes "product") (omega arith) (make_of (λ x. rel.Product x.0 x.1) (omega arith) (exact_two_sets room p first))
      (call_first (codes "star") (omega arith) (make_of (λ v. rel.Star v) (omega arith) (exact_one_rel room q second))
      (call_first (codes "union") (omega arith) (make_of (λ x. rel.Union x.0 x.1) (omega arith) rels)
      (call_first (codes "concat") (omega arith) (make_of (λ x. rel.Concat x.0 x.1) (omega arith) rels) (led_word (codes "compose") (omega arith) (make_of (λ x. rel.Compose x.0 x.1) (omega arith) rels))
      refl)
      refl)
      refl)
      refl)
      refl

  -- sets and relations with so much room
  record Both (room : ℕ) : Type 0 where
    of_set : Exact a_set nothing 0 room room room end (read_set end room)
    of_rel : Exact a_rel nothing 1 room room room end (read_rel end room)

  exact_both : (room : ℕ) → Both room
  unfolding read_set read_rel set_inside read_one_set read_two_sets read_set_and_rel read_one_rel read_two_rels
  exact_both zero =
      let first = nowhere a_set 0 end (set_inside end zero) in
      let second = nowhere a_rel 1 end (rel_inside end zero) in
      record {
        of_set = (led_set zero (set_inside end zero) (rel_inside end zero) first second).exact;
        of_rel = (led_rel zero (set_inside end zero) (rel_inside end zero) first second).exact;
      }
  exact_both (suc room) =
      let less = exact_both room in
      let first = one_less_inside a_set 0 room end (set_inside end (suc room)) less.of_set in
      let second = one_less_inside a_rel 1 room end (rel_inside end (suc room)) less.of_rel in
      record {
        of_set = (led_set (suc room) (set_inside end (suc room)) (rel_inside end (suc room)) first second).exact;
        of_rel = (led_rel (suc room) (set_inside end (suc room)) (rel_inside end (suc room)) first second).exact;
      }

  sets_inside : (room : ℕ) → Inside a_set 0 room end (set_inside end room)
  unfolding read_set set_inside read_one_set read_two_sets read_set_and_rel
  sets_inside zero = nowhere a_set 0 end (set_inside end zero)
  sets_inside (suc room) = one_less_inside a_set 0 room end (set_inside end (suc room)) (exact_both room).of_set

  tree_completed : Completed a_tree 1
  unfolding a_tree
  tree_completed =
      let c = (led_word (codes "equal") (omega arith) (make_of (λ x. assertion.Equal x.0 x.1) (omega arith) (exact_two_sets 0 (λ _. Err Memory) (nowhere a_set 0 end (λ _. Err Memory))))).exact.completed in
      record { others = c.others; value = c.value; whole = λ d le k. inl (c.whole d le k) }

  abbrev starts_tree : TokenKind → Bool
  starts_tree kind =
      is_word_of (codes "equal") kind || (is_word_of (codes "included") kind || (is_word_of (codes "and") kind
      || (is_word_of (codes "or") kind || is_word_of (codes "not") kind)))

  led_tree : (room : ℕ) (p : Reading AssertExpr) → Inside a_tree 1 room end p → Leading a_tree starts_tree nothing 1 room room room end (read_tree_over end room p (set_inside end room))
  unfolding a_tree
  led_tree room p inside =
      let sets = exact_two_sets room (set_inside end room) (sets_inside room) in
      let trees = exact_two a_tree inner_tree tree_is_inner a_tree inner_tree tree_is_inner 1 1 1 (omega arith) (omega arith) (omega arith) tree_completed tree_completed end room p p inside inside in
      let alone = exact_one a_tree inner_tree tree_is_inner 1 1 (omega arith) (omega arith) tree_completed end room p inside in
      call_first (codes "equal") (omega arith) (make_of (λ x. assertion.Equal x.0 x.1) (omega arith) sets)
      (call_first (codes "included") (omega arith) (make_of (λ x. assertion.Included x.0 x.1) (omega arith) sets)
      (call_first (codes "and") (omega arith) (make_of (λ x. assertion.And x.0 x.1) (omega arith) trees)
      (call_first (codes "or") (omega arith) (make_of (λ x. assertion.Or x.0 x.1) (omega arith) trees) (led_word (codes "not") (omega arith) (make_of (λ v. assertion.Not v) (omega arith) alone))
      refl)
      refl)
      refl)
      refl

  pub exact_tree : (room : ℕ) → Exact a_tree nothing 1 room room room end (read_tree end room)
  unfolding read_tree tree_inside read_two_sets read_one_tree read_two_trees
  exact_tree zero = (led_tree zero (tree_inside end zero) (nowhere a_tree 1 end (tree_inside end zero))).exact
  exact_tree (suc room) = (led_tree (suc room) (tree_inside end (suc room)) (one_less_inside a_tree 1 room end (tree_inside end (suc room)) (exact_tree room))).exact
