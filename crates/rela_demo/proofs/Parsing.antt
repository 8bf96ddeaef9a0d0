-- The tokens of the specification spell its tree.
use Rattle.std.proofs.Common.{◌≡◌, refl, inl, inr, ℕ, ◌≤◌, false, List, [], ◌∷◌, length, None, codes, arith}
use Rattle.std.specs.Prelude.{⊤}
use Rattle.rela_flows.specs.declared.predicate.Predicate.{Predicate}
use Rattle.rela_flows.specs.declared.predicate.Predicate.TheVariants as flows
use Rattle.rela_lex.specs.declared.token.Token.{Token}
use Rattle.rela_lex.specs.declared.token.TokenKind.TheVariants.{Bare, Mark}
use Rattle.rela_names.specs.declared.level.Level.TheVariants as level
use Rattle.rela_spec.specs.Grammar.{IsShallow, an_item, bad_in_front, bad_number, check_item, condition, file, level_line, level_word, room_behind}
use Rattle.rela_spec.specs.GrammarPaths.{a_member, atom, expression, negation, path, postfix}
use Rattle.rela_spec.specs.GrammarPredicates.{denial, disjunction, predicate, single as single_predicate, test}
use Rattle.rela_spec.specs.GrammarSpecs.{alternatives, body, change, single, unit}
use Rattle.rela_spec.specs.GrammarWords.{mark, name, word}
use Rattle.rela_spec.specs.Keywords.{is_item_word, is_joining_word, is_keyword, is_member_word, is_modifier_word, is_predicate_word}
use Rattle.rela_spec.specs.Phrases.{Phrase, chain, done, none}
use Rattle.rela_spec.specs.declared.tree.Item.TheVariants as item
use Rattle.rela_spec.specs.declared.tree.Modifier.TheVariants as modifier
use Rattle.rela_spec.specs.declared.tree.PathExpr.{PathExpr}
use Rattle.rela_spec.specs.declared.tree.PathExpr.TheVariants as expr
use Rattle.rela_spec.specs.declared.tree.Member.TheVariants as member
use Rattle.rela_spec.specs.declared.tree.SpecExpr.{SpecExpr}
use Rattle.rela_spec.specs.declared.tree.SpecExpr.TheVariants as spec
use Rattle.rela_demo.specs.Names.{label_b, device_name}
use Rattle.rela_demo.specs.Specification.{IsTextOf, all_stay, cut_body, first_check, flow_seven, last_b, second_check, specification, specification_text}
use Rattle.rela_demo.proofs.Lexing.{all_tokens, later_tokens, lexed, token}

-- ---- chains

one_part : {A : Type 0} (join : List A → A) (between : Phrase (⊤)) (part : Phrase A) (a : List Token) (v : A) (b : List Token) → part a v b → chain join between part a v b
one_part join between part a v b p = (v, b, p, ([], b, refl, (refl, refl)))

two_parts : {A : Type 0} (join : List A → A) (between : Phrase (⊤)) (part : Phrase A) (a : List Token) (v : A) (b c : List Token) (w : A) (d : List Token) → part a v b → between b tt c → part c w d → chain join between part a (join (v ∷ w ∷ [])) d
two_parts join between part a v b c w d p joined q = (v, b, p, (w ∷ [], d, (d, (tt, c, joined, q), refl), (refl, refl)))

-- ---- `{ .* : preserve }`

any_path : (a b : ℕ) (rest : List Token) → path 0 (token a (Mark 46) ∷ token b (Mark 42) ∷ rest) (expr.Star expr.Any) rest
unfolding path expression negation atom postfix
any_path a b rest =
    let star : List Token = token b (Mark 42) ∷ rest in
    let whole : List Token = token a (Mark 46) ∷ star in
    let e : PathExpr = expr.Star expr.Any in
    let parts : Phrase PathExpr = negation 0 none in
    let row : Phrase PathExpr = chain expr.Seq (done tt) parts in
    let rows : Phrase PathExpr = chain expr.And (mark 38) row in
    one_part expr.Alt (mark 124) rows whole e rest (one_part expr.And (mark 38) row whole e rest (one_part expr.Seq (done tt) parts whole e rest
    (inr (expr.Any, star, inl (tt, star, (token a (Mark 46), refl, refl), (refl, refl)), inl (tt, rest, (token b (Mark 42), refl, refl), (refl, refl))))))

stay_unit : (a b c d e f : ℕ) (rest : List Token)
    → unit 1 (token a (Mark 123) ∷ token b (Mark 46) ∷ token c (Mark 42) ∷ token d (Mark 58) ∷ token e (Bare (codes "preserve")) ∷ token f (Mark 125) ∷ rest) all_stay rest
unfolding unit change
stay_unit a b c d e f rest =
    let closing : List Token = token f (Mark 125) ∷ rest in
    let stays : List Token = token e (Bare (codes "preserve")) ∷ closing in
    let colon : List Token = token d (Mark 58) ∷ stays in
    let inside : List Token = token b (Mark 46) ∷ token c (Mark 42) ∷ colon in (
      tt,
      inside,
      (token a (Mark 123), refl, refl),
      (
        expr.Star expr.Any,
        colon,
        any_path b c colon,
        (
          tt,
          stays,
          (token d (Mark 58), refl, refl),
          (
            modifier.Preserve,
            closing,
            inl (tt, closing, (token e (Bare (codes "preserve")), refl, refl), (refl, refl)),
            (tt, rest, (token f (Mark 125), refl, refl), (refl, refl)),
          ),
        ),
      ),
    )

stay_single : (inside : Phrase SpecExpr) (a b c d e f : ℕ) (rest : List Token)
    → single 1 inside (token a (Mark 123) ∷ token b (Mark 46) ∷ token c (Mark 42) ∷ token d (Mark 58) ∷ token e (Bare (codes "preserve")) ∷ token f (Mark 125) ∷ rest) all_stay rest
unfolding single
stay_single inside a b c d e f rest = inr (inr (stay_unit a b c d e f rest))

-- ---- `{ b200 : drop }`

b_path : (n a : ℕ) (rest : List Token) → path 0 (token 108 (Bare (device_name (label_b n))) ∷ token a (Mark 58) ∷ rest) (last_b n) (token a (Mark 58) ∷ rest)
unfolding path expression negation atom postfix a_member is_keyword is_item_word is_member_word is_modifier_word is_joining_word is_predicate_word
b_path n a rest =
    let after : List Token = token a (Mark 58) ∷ rest in
    let whole : List Token = token 108 (Bare (device_name (label_b n))) ∷ after in
    let m = member.Here (device_name (label_b n)) 108 in
    let e : PathExpr = expr.One m in
    let parts : Phrase PathExpr = negation 0 none in
    let row : Phrase PathExpr = chain expr.Seq (done tt) parts in
    let rows : Phrase PathExpr = chain expr.And (mark 38) row in
    one_part expr.Alt (mark 124) rows whole e after (one_part expr.And (mark 38) row whole e after (one_part expr.Seq (done tt) parts whole e after
    (inr (
      e,
      after,
      inr (inr (inr (inr (m, after, inr (inr (inr (record { name = device_name (label_b n); at = 108 }, after, (token 108 (Bare (device_name (label_b n))), refl, (refl, inr (refl, refl))), (refl, refl)))), (refl, refl))))),
      inr (inr (inr (inr (refl, refl)))),
    ))))

drop_unit : (n a d e f : ℕ) (rest : List Token)
    → unit 1 (token a (Mark 123) ∷ token 108 (Bare (device_name (label_b n))) ∷ token d (Mark 58) ∷ token e (Bare (codes "drop")) ∷ token f (Mark 125) ∷ rest) (spec.Unit (last_b n) modifier.Drop) rest
unfolding unit change
drop_unit n a d e f rest =
    let closing : List Token = token f (Mark 125) ∷ rest in
    let drops : List Token = token e (Bare (codes "drop")) ∷ closing in
    let colon : List Token = token d (Mark 58) ∷ drops in
    let inside : List Token = token 108 (Bare (device_name (label_b n))) ∷ colon in (
      tt,
      inside,
      (token a (Mark 123), refl, refl),
      (
        last_b n,
        colon,
        b_path n d drops,
        (
          tt,
          drops,
          (token d (Mark 58), refl, refl),
          (
            modifier.Drop,
            closing,
            inr (inl (tt, closing, (token e (Bare (codes "drop")), refl, refl), (refl, refl))),
            (tt, rest, (token f (Mark 125), refl, refl), (refl, refl)),
          ),
        ),
      ),
    )

drop_single : (inside : Phrase SpecExpr) (n a d e f : ℕ) (rest : List Token)
    → single 1 inside (token a (Mark 123) ∷ token 108 (Bare (device_name (label_b n))) ∷ token d (Mark 58) ∷ token e (Bare (codes "drop")) ∷ token f (Mark 125) ∷ rest) (spec.Unit (last_b n) modifier.Drop) rest
unfolding single
drop_single inside n a d e f rest = inr (inr (drop_unit n a d e f rest))

-- ---- the bodies

stay_body : (a b c d e f : ℕ) (rest : List Token)
    → body 1 (token a (Mark 123) ∷ token b (Mark 46) ∷ token c (Mark 42) ∷ token d (Mark 58) ∷ token e (Bare (codes "preserve")) ∷ token f (Mark 125) ∷ rest) all_stay rest
unfolding body alternatives
stay_body a b c d e f rest =
    let whole : List Token = token a (Mark 123) ∷ token b (Mark 46) ∷ token c (Mark 42) ∷ token d (Mark 58) ∷ token e (Bare (codes "preserve")) ∷ token f (Mark 125) ∷ rest in
    let parts : Phrase SpecExpr = single 1 (body 0) in
    let row : Phrase SpecExpr = chain spec.Then (word (codes "then")) parts in
    one_part spec.Else (word (codes "else")) row whole all_stay rest (one_part spec.Then (word (codes "then")) parts whole all_stay rest (stay_single (body 0) a b c d e f rest))

-- the tokens of the second body from `then` and from `else` on
abbrev else_tokens : List Token → List Token
else_tokens rest = token 122 (Bare (codes "else")) ∷ token 127 (Mark 123) ∷ token 129 (Mark 46) ∷ token 130 (Mark 42) ∷ token 132 (Mark 58) ∷ token 134 (Bare (codes "preserve")) ∷ token 143 (Mark 125) ∷ rest

abbrev then_tokens : ℕ → List Token → List Token
then_tokens n rest = token 101 (Bare (codes "then")) ∷ token 106 (Mark 123) ∷ token 108 (Bare (device_name (label_b n))) ∷ token 113 (Mark 58) ∷ token 115 (Bare (codes "drop")) ∷ token 120 (Mark 125) ∷ else_tokens rest

abbrev body_tokens : ℕ → List Token → List Token
body_tokens n rest = token 83 (Mark 123) ∷ token 85 (Mark 46) ∷ token 86 (Mark 42) ∷ token 88 (Mark 58) ∷ token 90 (Bare (codes "preserve")) ∷ token 99 (Mark 125) ∷ then_tokens n rest

cut_spelled : (n : ℕ) (rest : List Token) → body 1 (body_tokens n rest) (cut_body n) rest
unfolding body alternatives
cut_spelled n rest =
    let dropped : SpecExpr = spec.Unit (last_b n) modifier.Drop in
    let drops : List Token = token 106 (Mark 123) ∷ token 108 (Bare (device_name (label_b n))) ∷ token 113 (Mark 58) ∷ token 115 (Bare (codes "drop")) ∷ token 120 (Mark 125) ∷ else_tokens rest in
    let others : List Token = token 127 (Mark 123) ∷ token 129 (Mark 46) ∷ token 130 (Mark 42) ∷ token 132 (Mark 58) ∷ token 134 (Bare (codes "preserve")) ∷ token 143 (Mark 125) ∷ rest in
    let parts : Phrase SpecExpr = single 1 (body 0) in
    let row : Phrase SpecExpr = chain spec.Then (word (codes "then")) parts in
    two_parts spec.Else (word (codes "else")) row (body_tokens n rest) (spec.Then (all_stay ∷ dropped ∷ [])) (else_tokens rest) others all_stay rest
    (two_parts spec.Then (word (codes "then")) parts (body_tokens n rest) all_stay (then_tokens n rest) drops dropped (else_tokens rest) (stay_single (body 0) 83 85 86 88 90 99 (then_tokens n rest)) (token 101 (Bare (codes "then")), refl, refl) (drop_single (body 0) n 106 113 115 120 (else_tokens rest)))
    (token 122 (Bare (codes "else")), refl, refl)
    (one_part spec.Then (word (codes "then")) parts others all_stay rest (stay_single (body 0) 127 129 130 132 134 143 rest))

-- ---- the conditions

seven_spelled : (inside : Phrase Predicate) (a b : ℕ) (rest : List Token) → single_predicate 1 inside (token a (Bare (codes "flow")) ∷ token b (Bare (codes "f7")) ∷ rest) flow_seven rest
unfolding single_predicate test is_keyword is_item_word is_member_word is_modifier_word is_joining_word is_predicate_word
seven_spelled inside a b rest =
    let named : List Token = token b (Bare (codes "f7")) ∷ rest in
    inr (inr (inr (inr (inl (tt, named, (token a (Bare (codes "flow")), refl, refl), (record { name = codes "f7"; at = b }, rest, (token b (Bare (codes "f7")), refl, (refl, inr (refl, refl))), (refl, refl)))))))

not_seven : (a b c : ℕ) (rest : List Token) → predicate 1 (token a (Bare (codes "not")) ∷ token b (Bare (codes "flow")) ∷ token c (Bare (codes "f7")) ∷ rest) (flows.Not flow_seven) rest
unfolding predicate disjunction denial
not_seven a b c rest =
    let denied : List Token = token b (Bare (codes "flow")) ∷ token c (Bare (codes "f7")) ∷ rest in
    let whole : List Token = token a (Bare (codes "not")) ∷ denied in
    let p : Predicate = flows.Not flow_seven in
    let parts : Phrase Predicate = denial 1 (predicate 0) in
    let row : Phrase Predicate = chain flows.And (word (codes "and")) parts in
    one_part flows.Or (word (codes "or")) row whole p rest (one_part flows.And (word (codes "and")) parts whole p rest (inl (tt, denied, (token a (Bare (codes "not")), refl, refl), (flow_seven, rest, seven_spelled (predicate 0) b c rest, (refl, refl)))))

seven : (a b : ℕ) (rest : List Token) → predicate 1 (token a (Bare (codes "flow")) ∷ token b (Bare (codes "f7")) ∷ rest) flow_seven rest
unfolding predicate disjunction denial
seven a b rest =
    let whole : List Token = token a (Bare (codes "flow")) ∷ token b (Bare (codes "f7")) ∷ rest in
    let parts : Phrase Predicate = denial 1 (predicate 0) in
    let row : Phrase Predicate = chain flows.And (word (codes "and")) parts in
    one_part flows.Or (word (codes "or")) row whole flow_seven rest (one_part flows.And (word (codes "and")) parts whole flow_seven rest (inr (seven_spelled (predicate 0) a b rest)))

-- ---- the checks

-- the parts of a check
check_spelled : (a b c d e : ℕ) (named : List ℕ) (when : Predicate) (asked : SpecExpr) (from_when from_body rest : List Token) → word (codes "for") (token c (Bare (codes "for")) ∷ from_when) tt from_when
    → name (token b (Bare named) ∷ token c (Bare (codes "for")) ∷ from_when) (record { name = named; at = b }) (token c (Bare (codes "for")) ∷ from_when)
    → predicate 1 from_when when (token d (Mark 58) ∷ from_body) → body 1 from_body asked (token e (Mark 59) ∷ rest)
    → an_item 1 (token a (Bare (codes "check")) ∷ token b (Bare named) ∷ token c (Bare (codes "for")) ∷ from_when) (item.Check false named b when asked) rest
unfolding an_item check_item condition
check_spelled a b c d e named when asked from_when from_body rest is_for is_name is_when is_body =
    let conditional : List Token = token c (Bare (codes "for")) ∷ from_when in
    let whole : List Token = token b (Bare named) ∷ conditional in
    let colon : List Token = token d (Mark 58) ∷ from_body in
    let closing : List Token = token e (Mark 59) ∷ rest in
    inr (inr (
      tt,
      whole,
      (token a (Bare (codes "check")), refl, refl),
      (
        false,
        whole,
        inr (refl, refl),
        (
          record { name = named; at = b },
          conditional,
          is_name,
          (
            when,
            colon,
            inl (tt, from_when, is_for, is_when),
            (
              tt,
              from_body,
              (token d (Mark 58), refl, refl),
              (
                asked,
                closing,
                is_body,
                (tt, rest, (token e (Mark 59), refl, refl), (refl, refl)),
              ),
            ),
          ),
        ),
      ),
    ))

abbrev first_body : ℕ → List Token
first_body n = token 41 (Mark 123) ∷ token 43 (Mark 46) ∷ token 44 (Mark 42) ∷ token 46 (Mark 58) ∷ token 48 (Bare (codes "preserve")) ∷ token 57 (Mark 125) ∷ token 58 (Mark 59) ∷ later_tokens n

abbrev first_when : ℕ → List Token
first_when n = token 27 (Bare (codes "not")) ∷ token 31 (Bare (codes "flow")) ∷ token 36 (Bare (codes "f7")) ∷ token 39 (Mark 58) ∷ first_body n

abbrev first_tokens : ℕ → List Token
first_tokens n = token 14 (Bare (codes "check")) ∷ token 20 (Bare (codes "c1")) ∷ token 23 (Bare (codes "for")) ∷ first_when n

first_spelled : (n : ℕ) → an_item 1 (first_tokens n) first_check (later_tokens n)
unfolding is_keyword is_item_word is_member_word is_modifier_word is_joining_word is_predicate_word
first_spelled n =
    check_spelled 14 20 23 39 58 (codes "c1") (flows.Not flow_seven) all_stay (first_when n) (first_body n) (later_tokens n) (token 23 (Bare (codes "for")), refl, refl) (token 20 (Bare (codes "c1")), refl, (refl, inr (refl, refl)))
    (not_seven 27 31 36 (token 39 (Mark 58) ∷ first_body n)) (stay_body 41 43 44 46 48 57 (token 58 (Mark 59) ∷ later_tokens n))

abbrev second_body : ℕ → List Token
second_body n = body_tokens n (token 144 (Mark 59) ∷ [])

abbrev second_when : ℕ → List Token
second_when n = token 73 (Bare (codes "flow")) ∷ token 78 (Bare (codes "f7")) ∷ token 81 (Mark 58) ∷ second_body n

second_spelled : (n : ℕ) → an_item 1 (later_tokens n) (second_check n) []
unfolding is_keyword is_item_word is_member_word is_modifier_word is_joining_word is_predicate_word
second_spelled n =
    check_spelled 60 66 69 81 144 (codes "c2") flow_seven (cut_body n) (second_when n) (second_body n) [] (token 69 (Bare (codes "for")), refl, refl) (token 66 (Bare (codes "c2")), refl, (refl, inr (refl, refl)))
    (seven 73 78 (token 81 (Mark 58) ∷ second_body n)) (cut_spelled n (token 144 (Mark 59) ∷ []))

-- ---- the file

file_spelled : (n : ℕ) → file 1 (all_tokens n) (specification n) []
unfolding file level_line level_word
file_spelled n =
    let from_level : List Token = token 6 (Bare (codes "device")) ∷ token 12 (Mark 59) ∷ first_tokens n in
    let ended : List Token = token 12 (Mark 59) ∷ first_tokens n in (
      level.Device,
      first_tokens n,
      inl (tt, from_level, (token 0 (Bare (codes "level")), refl, refl), (level.Device, ended, inr (inl (tt, ended, (token 6 (Bare (codes "device")), refl, refl), (refl, refl))), (tt, first_tokens n, (token 12 (Mark 59), refl, refl), (refl, refl)))),
      (first_check ∷ second_check n ∷ [], [], (later_tokens n, first_spelled n, ([], second_spelled n, refl)), (refl, refl)),
    )

shallow : (n : ℕ) → IsShallow (all_tokens n)
unfolding room_behind
shallow n = refl

no_bad_number : (n : ℕ) → bad_number (all_tokens n) ≡ None
unfolding bad_number bad_in_front
no_bad_number n = refl

pub is_specification : (n : ℕ) → IsTextOf (specification n) (specification_text n)
is_specification n = record { tokens = all_tokens n; lexed = lexed n; spelled = record { grammar = record { nested = 1; spelled = file_spelled n }; shallow = shallow n; numbers = no_bad_number n } }

pub specification_short : (n : ℕ) → length (specification_text n) ≤ 33554432
specification_short n = omega arith
