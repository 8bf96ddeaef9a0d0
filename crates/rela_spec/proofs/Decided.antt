-- A reading always has an answer of its own: what is read, or a fault that is not want of memory.
use Rattle.std.proofs.Common.{◌≡◌, ℕ, zero, suc, ◌+◌, ◌-◌, ◌≤◌, Bool, true, false, Option, None, Some, Result, Ok, Err, List, [], ◌∷◌, length, refl, sym, subst, inl, inr, arith}
use Rattle.std.specs.Prelude.{⊤, codes}
use Rattle.std.proofs.lemmas.Bool.{cases_Bool, cond-true, cond-false}
use Rattle.rela_locations.specs.declared.members.By.TheVariants as by
use Rattle.rela_lex.specs.declared.error.SpecError.{SpecError}
use Rattle.rela_lex.specs.declared.error.SpecError.TheVariants.{Syntax, Memory}
use Rattle.rela_lex.specs.declared.token.Token.{Token}
use Rattle.rela_lex.specs.declared.token.TokenKind.{TokenKind}
use Rattle.rela_names.specs.declared.level.Level.TheVariants as level
use Rattle.rela_flows.specs.declared.prefix.Prefix.{Prefix}
use Rattle.rela_flows.specs.declared.predicate.Predicate.{Predicate}
use Rattle.rela_flows.specs.declared.predicate.Predicate.TheVariants as flows
use Rattle.rela_spec.specs.Grammar.{is_mark_of}
use Rattle.rela_spec.specs.Phrases.{joined_parts}
use Rattle.rela_spec.specs.Readings.{Reading, next_is, and_read, read_done, choose, token_value, read_token, opened, read_open, read_many, read_all, read_chain}
use Rattle.rela_spec.specs.ReadWords.{read_mark, read_word, read_name, read_reference, read_number, read_prefix}
use Rattle.rela_spec.specs.ReadPaths as paths
use Rattle.rela_spec.specs.ReadPredicates as predicates
use Rattle.rela_spec.specs.ReadSpecs as specs
use Rattle.rela_spec.specs.ReadFile as files
use Rattle.rela_spec.specs.declared.tree.Item.TheVariants as item
use Rattle.rela_spec.specs.declared.tree.Member.TheVariants as member
use Rattle.rela_spec.specs.declared.tree.Modifier.TheVariants as modifier
use Rattle.rela_spec.specs.declared.tree.PathExpr.{PathExpr}
use Rattle.rela_spec.specs.declared.tree.PathExpr.TheVariants as expr
use Rattle.rela_spec.specs.declared.tree.SpecExpr.{SpecExpr}
use Rattle.rela_spec.specs.declared.tree.SpecExpr.TheVariants as spec

-- of so many tokens k are read, or more, or there is a fault
abbrev pub Gives : {A : Type 0} → ℕ → ℕ → Result (A × List Token) SpecError → Type 0
Gives n k (Ok found) = length found.1 + k ≤ n
Gives n k (Err Memory) = ⊥
Gives n k (Err _) = ⊤

pub record Decided {A : Type 0} (k : ℕ) (p : Reading A) : Type 0 where
  pub gives : (ts : List Token) → Gives (length ts) k (p ts)

shift : {A : Type 0} (n m k l : ℕ) (found : Result (A × List Token) SpecError) → n + l ≤ m + k → Gives n k found → Gives m l found
shift n m k l (Ok found) le h = omega arith
shift n m k l (Err Memory) le h = absurd h
shift n m k l (Err _) le h = tt

some : {A : Type 0} {p : Reading A} → Decided 1 p → Decided 0 p
some {p = p} first = record { gives = λ ts. shift (length ts) (length ts) 1 0 (p ts) (omega arith) (first.gives ts) }

of_done : {A : Type 0} (v : A) → Decided 0 (read_done v)
of_done v = record { gives = λ ts. omega arith }

then_gives : {A B : Type 0} (j k : ℕ) (q : A → Reading B) (ts : List Token) (found : Result (A × List Token) SpecError) → ((v : A) → Decided k (q v))
    → Gives (length ts) j found → Gives (length ts) (j + k) (and_read found q)
then_gives j k q ts (Ok found) second h = shift (length found.1) (length ts) k (j + k) (q found.0 found.1) (omega arith) ((second found.0).gives found.1)
then_gives j k q ts (Err Memory) second h = absurd h
then_gives j k q ts (Err _) second h = tt

of_then : {A B : Type 0} {j k : ℕ} {p : Reading A} {q : A → Reading B} → Decided j p → ((v : A) → Decided k (q v)) → Decided (j + k) (λ ts. and_read (p ts) q)
of_then {j = j} {k = k} {p = p} {q = q} first second = record { gives = λ ts. then_gives j k q ts (p ts) second (first.gives ts) }

-- a part, and what may be nothing
begun : {A B : Type 0} {p : Reading A} {q : A → Reading B} → Decided 1 p → ((v : A) → Decided 0 (q v)) → Decided 1 (λ ts. and_read (p ts) q)
begun first second = of_then {j = 1} {k = 0} first second

of_choose : {A : Type 0} {k : ℕ} {p q : Reading A} (passes : TokenKind → Bool) → Decided k p → Decided k q → Decided k (choose passes p q)
of_choose {k = k} {p = p} {q = q} passes first second = record {
  gives = λ ts. elim (cases_Bool (next_is passes ts)) [
    | inl next ↦ subst (Gives (length ts) k) (sym (cond-true (next_is passes ts) (p ts) (q ts) next)) (first.gives ts)
    | inr other ↦ subst (Gives (length ts) k) (sym (cond-false (next_is passes ts) (p ts) (q ts) other)) (second.gives ts)
  ];
}

value_gives : {A : Type 0} (at : ℕ) (ts : List Token) (value : Option A) → Gives (suc (length ts)) 1 (token_value at ts value)
value_gives at ts None = tt
value_gives at ts (Some v) = omega arith

of_token : {A : Type 0} (value : Token → Option A) (end : ℕ) → Decided 1 (read_token value end)
of_token value end = record { gives = go }
  where
    go : (ts : List Token) → Gives (length ts) 1 (read_token value end ts)
    go [] = tt
    go (t ∷ ts) = value_gives t.at ts (value t)

of_mark : (end byte : ℕ) → Decided 1 (read_mark end byte)
unfolding read_mark
of_mark end byte = of_token _ end

of_word : (end : ℕ) (bytes : List ℕ) → Decided 1 (read_word end bytes)
unfolding read_word
of_word end bytes = of_token _ end

of_name : (end : ℕ) → Decided 1 (read_name end)
unfolding read_name
of_name end = of_token _ end

of_reference : (end : ℕ) → Decided 1 (read_reference end)
unfolding read_reference
of_reference end = of_token _ end

of_number : (end : ℕ) → Decided 1 (read_number end)
unfolding read_number
of_number end = of_token _ end

of_prefix : (end : ℕ) → Decided 1 (read_prefix end)
unfolding read_prefix
of_prefix end = of_token _ end

open_gives : {A : Type 0} (room at : ℕ) (q : Reading A) (ts : List Token) → ((inner : ℕ) → room ≡ suc inner → Decided 0 q)
    → Gives (suc (length ts)) 1 (and_read (opened room at ts) (λ _. q))
open_gives zero at q ts inside = tt
open_gives (suc inner) at q ts inside = shift (length ts) (suc (length ts)) 0 1 (q ts) (omega arith) ((inside inner refl).gives ts)

-- an opening bracket, and what is read where it may be opened
of_open : {A : Type 0} {q : Reading A} (end byte room : ℕ) → ((inner : ℕ) → room ≡ suc inner → Decided 0 q) → Decided 1 (λ ts. and_read (read_open end byte room ts) (λ _. q))
unfolding read_open
of_open {q = q} end byte room inside = record { gives = go }
  where
    go : (ts : List Token) → Gives (length ts) 1 (and_read (read_open end byte room ts) (λ _. q))
    go [] = tt
    go (t ∷ ts) = elim (cases_Bool (is_mark_of byte t.kind)) [
      | inl is ↦ subst (λ found. Gives (suc (length ts)) 1 (and_read found (λ _. q))) (sym (cond-true (is_mark_of byte t.kind) (opened room t.at ts) (Err (Syntax t.at)) is)) (open_gives room t.at q ts inside)
      | inr other ↦ subst (λ found. Gives (suc (length ts)) 1 (and_read found (λ _. q))) (sym (cond-false (is_mark_of byte t.kind) (opened room t.at ts) (Err (Syntax t.at)) other)) tt
    ]

module _ {A : Type 0} (passes : TokenKind → Bool) (p : Reading A) (part : Decided 1 p) where
  abbrev onto : A → ℕ → Reading (List A)
  onto v n ts = and_read (read_many passes p n ts) (λ vs. read_done (v ∷ vs))

  onto_gives : (v : A) (m : ℕ) (found : Result (List A × List Token) SpecError) → Gives m 0 found → Gives m 0 (and_read found (λ vs. read_done (v ∷ vs)))
  onto_gives v m (Ok found) h = h
  onto_gives v m (Err Memory) h = absurd h
  onto_gives v m (Err _) h = tt

  more_gives : (n : ℕ) (ts : List Token) (found : Result (A × List Token) SpecError) → length ts ≤ suc n
      → ((us : List Token) → length us ≤ n → Gives (length us) 0 (read_many passes p n us)) → Gives (length ts) 1 found → Gives (length ts) 0 (and_read found (λ v. onto v n))
  more_gives n ts (Ok found) le go h =
      shift (length found.1) (length ts) 0 0 (onto found.0 n found.1) (omega arith) (onto_gives found.0 (length found.1) (read_many passes p n found.1) (go found.1 (omega arith)))
  more_gives n ts (Err Memory) le go h = absurd h
  more_gives n ts (Err _) le go h = tt

  many_gives : (n : ℕ) (ts : List Token) → length ts ≤ n → Gives (length ts) 0 (read_many passes p n ts)
  many_gives zero [] le = omega arith
  many_gives zero (t ∷ ts) le = absurd (omega arith)
  many_gives (suc n) ts le = elim (cases_Bool (next_is passes ts)) [
    | inl next ↦ subst (Gives (length ts) 0) (sym (cond-true (next_is passes ts) (and_read (p ts) (λ v. onto v n)) (Ok ([], ts)) next))
        (more_gives n ts (p ts) le (λ us far. many_gives n us far) (part.gives ts))
    | inr other ↦ subst (Gives (length ts) 0) (sym (cond-false (next_is passes ts) (and_read (p ts) (λ v. onto v n)) (Ok ([], ts)) other)) (omega arith)
  ]

  of_all : Decided 0 (read_all passes p)
  unfolding read_all
  of_all = record { gives = λ ts. many_gives (length ts) ts (omega arith) }

of_chain : {A : Type 0} (join : List A → A) (passes : TokenKind → Bool) (next part : Reading A) → Decided 1 next → Decided 1 part → Decided 1 (read_chain join passes next part)
of_chain join passes next part more first = begun first (λ v. of_then (of_all passes next more) (λ vs. of_done (joined_parts join v vs)))

-- a part, and a mark behind it
marked : {A B : Type 0} {p : Reading A} (end byte : ℕ) (f : A → B) → Decided 1 p → Decided 1 (λ ts. and_read (p ts) (λ v ts. and_read (read_mark end byte ts) (λ _. read_done (f v))))
marked end byte f first = begun first (λ v. some (begun (of_mark end byte) (λ _. of_done (f v))))

word_alone : {A : Type 0} (end : ℕ) (bytes : List ℕ) (v : A) → Decided 1 (λ ts. and_read (read_word end bytes ts) (λ _. read_done v))
word_alone end bytes v = begun (of_word end bytes) (λ _. of_done v)

word_before : {A : Type 0} {p : Reading A} (end : ℕ) (bytes : List ℕ) → Decided 1 p → Decided 1 (λ ts. and_read (read_word end bytes ts) (λ _. p))
word_before end bytes part = begun (of_word end bytes) (λ _. some part)

turned : {A B : Type 0} {p : Reading A} (f : A → B) → Decided 1 p → Decided 1 (λ ts. and_read (p ts) (λ v. read_done (f v)))
turned f part = begun part (λ v. of_done (f v))

module _ (end : ℕ) where
  of_by : Decided 1 (paths.read_picked_by end)
  unfolding paths.read_picked_by
  of_by = of_choose _ (word_alone end (codes "interface") by.Interface)
      (of_choose _ (word_alone end (codes "device") by.Device) (of_choose _ (word_alone end (codes "group") by.Group) (word_alone end (codes "tag") by.Tag)))

  of_picked : (room : ℕ) → Decided 1 (paths.read_picked end room)
  unfolding paths.read_picked
  of_picked room = begun of_by (λ b. some (turned (λ n. member.Within b n.name n.at) (of_open end 40 room (λ _ _. some (marked end 41 (λ n. n) (of_name end))))))

  of_member : (room : ℕ) → Decided 1 (paths.read_member end room)
  unfolding paths.read_member
  of_member room = of_choose _ (word_alone end (codes "drop") member.Drop)
      (of_choose _ (word_alone end (codes "loop") member.Loop) (of_choose _ (of_picked room) (turned (λ n. member.Here n.name n.at) (of_name end))))

  of_class : (room : ℕ) → Decided 1 (paths.read_class end room)
  unfolding paths.read_class paths.read_members
  of_class room = of_open end 91 room (λ _ _.
      of_then (of_choose _ (some (begun (of_mark end 94) (λ _. of_done true))) (of_done false)) (λ negated.
      of_then (of_all paths.starts_member (paths.read_member end (room - 1)) (of_member (room - 1))) (λ members. some (begun (of_mark end 93) (λ _. of_done (expr.Class negated members))))))

  of_times : (room : ℕ) → Decided 1 (paths.read_times end room)
  unfolding paths.read_times
  of_times room = of_open end 123 room (λ _ _. some (marked end 125 (λ n. n) (of_number end)))

  of_atom : (room : ℕ) (inside : Reading PathExpr) → ((inner : ℕ) → room ≡ suc inner → Decided 1 inside) → Decided 1 (paths.read_atom end room (paths.read_group end room inside))
  of_atom room inside within = of_choose _ (begun (of_mark end 46) (λ _. of_done expr.Any))
      (of_choose _ (of_open end 40 room (λ inner e. of_choose _ (some (begun (of_mark end 41) (λ _. of_done expr.Empty))) (some (marked end 41 (λ w. w) (within inner e)))))
      (of_choose _ (of_class room)
      (of_choose _ (turned (λ n. expr.Reference n.name n.at) (of_reference end)) (turned (λ m. expr.One m) (of_member room)))))

  of_postfix : (room : ℕ) (e : PathExpr) → Decided 0 (paths.read_postfix end room e)
  unfolding paths.read_postfix
  of_postfix room e = of_choose _ (some (begun (of_mark end 42) (λ _. of_done (expr.Star e))))
      (of_choose _ (some (begun (of_mark end 43) (λ _. of_done (expr.Plus e))))
      (of_choose _ (some (begun (of_mark end 63) (λ _. of_done (expr.Maybe e))))
      (of_choose _ (some (turned (λ n. expr.Times e n) (of_times room))) (of_done e))))

  of_expression : (room : ℕ) (inside : Reading PathExpr) → ((inner : ℕ) → room ≡ suc inner → Decided 1 inside) → Decided 1 (paths.read_expression end room inside)
  of_expression room inside within =
      of_chain expr.Alt _ _ _ (begun (of_mark end 124) (λ _. some conjunction)) conjunction
    where
      postfixed : Decided 1 (paths.read_postfixed end room (paths.read_atom end room (paths.read_group end room inside)))
      postfixed = begun (of_atom room inside within) (of_postfix room)

      negation : Decided 1 (paths.read_negation end (paths.read_postfixed end room (paths.read_atom end room (paths.read_group end room inside))))
      negation = of_choose _ (begun (of_mark end 33) (λ _. some (turned (λ e. expr.Not e) postfixed))) postfixed

      sequence : Decided 1 (paths.read_sequence (paths.read_negation end (paths.read_postfixed end room (paths.read_atom end room (paths.read_group end room inside)))))
      sequence = of_chain expr.Seq _ _ _ negation negation

      conjunction : Decided 1 (paths.read_conjunction end (paths.read_sequence (paths.read_negation end (paths.read_postfixed end room (paths.read_atom end room (paths.read_group end room inside))))))
      conjunction = of_chain expr.And _ _ _ (begun (of_mark end 38) (λ _. some sequence)) sequence

  pub of_path : (room : ℕ) → Decided 1 (paths.read_path end room)
  unfolding paths.read_path
  of_path zero = of_expression zero (λ _. Err Memory) (λ inner e. absurd (omega (arith, e)))
  of_path (suc room) = of_expression (suc room) (paths.read_path end room) (λ inner e. of_path room)

  of_placed : (form other : Prefix → Predicate) → Decided 1 (predicates.read_placed end form other)
  of_placed form other = of_choose _ (word_before end (codes "in") (turned form (of_prefix end))) (word_before end (codes "overlaps") (turned other (of_prefix end)))

  of_test : Decided 1 (predicates.read_test end)
  unfolding predicates.read_test predicates.read_destination predicates.read_source
  of_test = of_choose _ (word_alone end (codes "all") flows.All)
      (of_choose _ (word_before end (codes "dst") (of_placed flows.DstIn flows.DstOverlaps))
      (of_choose _ (word_before end (codes "src") (of_placed flows.SrcIn flows.SrcOverlaps))
      (of_choose _ (word_before end (codes "flow") (turned (λ n. flows.Flow n.name) (of_name end))) (word_before end (codes "class") (turned (λ n. flows.Class n.name) (of_name end))))))

  of_disjunction : (room : ℕ) (inside : Reading Predicate) → ((inner : ℕ) → room ≡ suc inner → Decided 1 inside) → Decided 1 (predicates.read_over end room inside)
  of_disjunction room inside within =
      of_chain flows.Or _ _ _ (word_before end (codes "or") conjunction) conjunction
    where
      single : Decided 1 (predicates.read_single end (predicates.read_group end room inside))
      single = of_choose _ (of_open end 40 room (λ inner e. some (marked end 41 (λ p. p) (within inner e)))) of_test

      denial : Decided 1 (predicates.read_denial end (predicates.read_single end (predicates.read_group end room inside)))
      denial = of_choose _ (word_before end (codes "not") (turned (λ p. flows.Not p) single)) single

      conjunction : Decided 1 (predicates.read_conjunction end (predicates.read_denial end (predicates.read_single end (predicates.read_group end room inside))))
      conjunction = of_chain flows.And _ _ _ (word_before end (codes "and") denial) denial

  of_predicate : (room : ℕ) → Decided 1 (predicates.read_predicate end room)
  unfolding predicates.read_predicate
  of_predicate zero = of_disjunction zero (λ _. Err Memory) (λ inner e. absurd (omega (arith, e)))
  of_predicate (suc room) = of_disjunction (suc room) (predicates.read_predicate end room) (λ inner e. of_predicate room)

  of_argument : (room : ℕ) → Decided 1 (specs.read_argument end room)
  unfolding specs.read_argument
  of_argument room = of_open end 40 room (λ _ _. some (marked end 41 (λ e. e) (of_path (room - 1))))

  of_replacement : (room : ℕ) → Decided 1 (specs.read_replacement end room)
  unfolding specs.read_replacement
  of_replacement room = of_open end 40 room (λ _ _. some (begun (of_path (room - 1)) (λ old. some (begun (of_mark end 44) (λ _. some (marked end 41 (λ new. modifier.Replace old new) (of_path (room - 1))))))))

  of_change : (room : ℕ) → Decided 1 (specs.read_change end room)
  unfolding specs.read_change
  of_change room = of_choose _ (word_alone end (codes "preserve") modifier.Preserve)
      (of_choose _ (word_alone end (codes "drop") modifier.Drop)
      (of_choose _ (word_before end (codes "add") (turned (λ e. modifier.Add e) (of_argument room)))
      (of_choose _ (word_before end (codes "remove") (turned (λ e. modifier.Remove e) (of_argument room)))
      (of_choose _ (word_before end (codes "replace") (of_replacement room))
      (of_choose _ (word_before end (codes "any") (turned (λ e. modifier.AnyOf e) (of_argument room))) (word_before end (codes "ignore") (turned (λ e. modifier.Ignore e) (of_argument room))))))))

  of_unit : (room : ℕ) → Decided 1 (specs.read_unit end room)
  unfolding specs.read_unit
  of_unit room = of_open end 123 room (λ _ _. some (begun (of_path (room - 1)) (λ zone. some (begun (of_mark end 58) (λ _. some (marked end 125 (λ m. spec.Unit zone m) (of_change (room - 1))))))))

  of_alternatives : (room : ℕ) (inside : Reading SpecExpr) → ((inner : ℕ) → room ≡ suc inner → Decided 1 inside) → Decided 1 (specs.read_over end room inside)
  of_alternatives room inside within =
      of_chain spec.Else _ _ _ (word_before end (codes "else") steps) steps
    where
      single : Decided 1 (specs.read_single end room (specs.read_group end room inside))
      single = of_choose _ (turned (λ n. spec.Reference n.name n.at) (of_reference end)) (of_choose _ (of_open end 40 room (λ inner e. some (marked end 41 (λ s. s) (within inner e)))) (of_unit room))

      steps : Decided 1 (specs.read_steps end (specs.read_single end room (specs.read_group end room inside)))
      steps = of_chain spec.Then _ _ _ (word_before end (codes "then") single) single

  of_body : (room : ℕ) → Decided 1 (specs.read_body end room)
  unfolding specs.read_body
  of_body zero = of_alternatives zero (λ _. Err Memory) (λ inner e. absurd (omega (arith, e)))
  of_body (suc room) = of_alternatives (suc room) (specs.read_body end room) (λ inner e. of_body room)

  of_level : Decided 0 (files.read_level_line end)
  unfolding files.read_level_line files.read_level_word
  of_level = of_choose _
      (some (word_before end (codes "level") (marked end 59 (λ l. l) (of_choose _ (word_alone end (codes "interface") level.Interface)
      (of_choose _ (word_alone end (codes "device") level.Device) (word_alone end (codes "group") level.Group))))))
      (of_done level.Interface)

  of_condition : (room : ℕ) → Decided 0 (files.read_condition end room)
  unfolding files.read_condition
  of_condition room = of_choose _ (some (word_before end (codes "for") (of_predicate room))) (of_done flows.All)

  of_item : (room : ℕ) → Decided 1 (files.read_item end room)
  unfolding files.read_item files.read_path_item files.read_spec_item files.read_check_item
  of_item room = of_choose _ (word_before end (codes "path") (begun (of_name end) (λ n. some (begun (of_mark end 61) (λ _. some (marked end 59 (λ e. item.Path n.name n.at e) (of_path room)))))))
      (of_choose _ (word_before end (codes "spec") (begun (of_name end) (λ n. some (begun (of_mark end 61) (λ _. some (marked end 59 (λ s. item.Spec n.name n.at s) (of_body room)))))))
      (begun (of_word end (codes "check")) (λ _. of_then (of_choose _ (some (begun (of_word end (codes "atmost")) (λ _. of_done true))) (of_done false)) (λ at_most.
      some (begun (of_name end) (λ n. of_then (of_condition room) (λ when. some (begun (of_mark end 58) (λ _. some (marked end 59 (λ s. item.Check at_most n.name n.at when s) (of_body room)))))))))))

  pub of_file : (room : ℕ) → Decided 0 (files.read_file end room)
  unfolding files.read_file files.read_items
  of_file room = of_then of_level (λ l. of_then (of_all _ (files.read_item end room) (of_item room)) (λ items. of_done _))
