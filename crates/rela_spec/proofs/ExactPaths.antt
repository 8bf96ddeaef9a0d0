-- Path expressions are read exactly.
use Rattle.std.proofs.Common.{◌≡◌, ℕ, zero, suc, ◌-◌, Bool, true, false, ◌||◌, Some, Err, List, [], ◌∷◌, refl, sym, subst, arith}
use Rattle.std.specs.Prelude.{codes}
use Rattle.rela_lex.specs.declared.error.SpecError.TheVariants.{Memory}
use Rattle.rela_lex.specs.declared.token.Token.{Token}
use Rattle.rela_lex.specs.declared.token.TokenKind.{TokenKind}
use Rattle.rela_lex.specs.declared.token.TokenKind.TheVariants.{Mark, Bare, Quoted, Reference}
use Rattle.rela_locations.specs.declared.members.By.TheVariants as by
use Rattle.rela_spec.specs.Grammar.{is_mark_of, room_after}
use Rattle.rela_spec.specs.GrammarWords.{mark, name, reference, number}
use Rattle.rela_spec.specs.GrammarPaths.{picked_by, picked, a_member, class, times, group, atom, postfix, negation, expression, path}
use Rattle.rela_spec.specs.Keywords.{is_keyword, is_item_word, is_member_word, is_modifier_word, is_joining_word, is_predicate_word}
use Rattle.rela_spec.specs.Phrases.{Phrase, done, none, whether, many, chain, bracketed, ◌or◌, ◌>>=◌, ◌>>◌}
use Rattle.rela_spec.specs.ReadWords.{is_word_of, is_name_kind, is_reference_kind, read_mark, read_name, read_reference, read_number, whether_mark}
use Rattle.rela_spec.specs.ReadPaths.{is_picking, read_picked_by, read_picked, read_member, starts_member, read_members, read_class, read_times, read_group, read_atom, read_postfix, read_postfixed, read_negation, starts_path, read_sequence, read_conjunction, read_expression, read_path}
use Rattle.rela_spec.specs.Readings.{Reading, next_is, choose, and_read, read_done}
use Rattle.rela_spec.specs.declared.tree.Member.TheVariants as member
use Rattle.rela_spec.specs.declared.tree.PathExpr.{PathExpr}
use Rattle.rela_spec.specs.declared.tree.PathExpr.TheVariants as expr
use Rattle.rela_spec.proofs.Exact.{Stops, Completed, Exact}
use Rattle.rela_spec.proofs.Then.{Follows, exact_then}
use Rattle.rela_spec.proofs.Choose.{Avoids, exact_done, exact_as, exact_choose, first_completes, second_completes}
use Rattle.rela_spec.proofs.Many.{all_exact}
use Rattle.rela_spec.proofs.ExactWords.{nothing, stops_nothing, stops_first, stops_second, Apart, apart_mark, apart_word, apart_or, apart_back, apart_next, begins_mark, begins_name, begins_reference, begins_then, avoids_begins, avoids_or, avoids_done, follows_nothing, exact_name, exact_reference, exact_number}
use Rattle.rela_spec.proofs.Leading.{Leading, widen, behind_mark, led_mark, led_word, led_or, or_mark, or_word, mark_or_else, make_of, led_make, led_then, closed_by, led_open, closes_to, led_chain}

module _ (end : ℕ) where
  pub led_picked_by : (room level : ℕ) → Leading (λ d. picked_by) is_picking nothing 0 room level level end (read_picked_by end)
  unfolding picked_by read_picked_by
  led_picked_by room level =
      or_word (codes "interface") (omega arith) (exact_done by.Interface nothing 0 room level end)
      (or_word (codes "device") (omega arith) (exact_done by.Device nothing 0 room level end)
      (or_word (codes "group") (omega arith) (exact_done by.Group nothing 0 room level end)
      (led_word (codes "tag") (omega arith) (exact_done by.Tag nothing 0 room level end))
      refl)
      refl)
      refl

  pub named_inside : (inner room : ℕ) → room ≡ suc inner → Exact (λ d. name >>= λ n. mark 41 >> done n) nothing 0 inner inner room end (λ ts. and_read (read_name end ts) (λ n ts. and_read (read_mark end 41 ts) (λ _. read_done n)))
  named_inside inner room e = closed_by (λ n. n) 41 room nothing (omega arith) (exact_name nothing 0 inner inner end) (closes_to inner room e) refl

  pub led_picked : (room : ℕ) → Leading (λ d. picked d) is_picking nothing 1 room room room end (read_picked end room)
  unfolding picked read_picked
  led_picked room =
      let by_word = led_picked_by room room in
      led_then (omega arith) (record { exact = widen 0 (omega arith) by_word.exact; begins = by_word.begins })
      (λ b. make_of (λ n. member.Within b n.name n.at) (omega arith) (led_open 40 refl (named_inside 0 1 refl).completed (λ inner e. named_inside inner room e)).exact)
      (follows_nothing (λ b d. bracketed d (mark 40) (λ _. name >>= λ n. mark 41 >> done n) >>= λ n. done (member.Within b n.name n.at)) nothing)

  picking_apart : Apart is_picking is_name_kind
  unfolding is_keyword is_item_word is_member_word is_modifier_word is_joining_word is_predicate_word
  picking_apart =
      apart_or (is_word_of (codes "interface")) (λ kind. is_word_of (codes "device") kind || (is_word_of (codes "group") kind || is_word_of (codes "tag") kind)) is_name_kind (apart_word (codes "interface") is_name_kind refl)
      (apart_or (is_word_of (codes "device")) (λ kind. is_word_of (codes "group") kind || is_word_of (codes "tag") kind) is_name_kind (apart_word (codes "device") is_name_kind refl)
      (apart_or (is_word_of (codes "group")) (is_word_of (codes "tag")) is_name_kind (apart_word (codes "group") is_name_kind refl) (apart_word (codes "tag") is_name_kind refl)))

  led_here : (room level : ℕ) → Leading (λ d. name >>= λ n. done (member.Here n.name n.at)) is_name_kind nothing 0 room level level end (λ ts. and_read (read_name end ts) (λ n. read_done (member.Here n.name n.at)))
  led_here room level = led_make (λ n. member.Here n.name n.at) (omega arith) (record { exact = exact_name nothing 0 room level end; begins = begins_name })

  pub led_member : (room : ℕ) → Leading (λ d. a_member d) starts_member nothing 0 room room room end (read_member end room)
  unfolding a_member read_member starts_member is_keyword is_item_word is_member_word is_modifier_word is_joining_word is_predicate_word
  led_member room =
      let here = led_here room room in
      or_word (codes "drop") (omega arith) (exact_done member.Drop nothing 0 room room end)
      (or_word (codes "loop") (omega arith) (exact_done member.Loop nothing 0 room room end)
      (led_or {least = 0} (led_picked room) here picking_apart (second_completes (λ d. picked d) (λ d. name >>= λ n. done (member.Here n.name n.at)) 0 here.exact.completed))
      refl)
      refl

  exact_whether : (byte room level : ℕ) → room_after (Mark byte) level ≡ Some level → Exact (λ d. whether (mark byte)) (is_mark_of byte) 0 room level level end (whether_mark end byte)
  exact_whether byte room level kept = mark_or_else byte level (omega arith) kept (exact_done true (is_mark_of byte) 0 room level end) (exact_done false (is_mark_of byte) 0 room level end) (avoids_done false (is_mark_of byte) (is_mark_of byte) (λ ts h. h))

  abbrev members_close : ℕ → Bool → ℕ → Phrase PathExpr
  members_close inner negated d = many (a_member d) >>= λ members. mark 93 >> done (expr.Class negated members)

  exact_members : (room : ℕ) → Exact (λ d. many (a_member d)) starts_member 0 room room room end (read_members end room)
  unfolding read_members
  exact_members room =
      let one = led_member room in
      all_exact (λ d. a_member d) starts_member nothing starts_member 0 room room end (read_member end room)
      (record { few = omega arith; part = one.exact; begins = one.begins; ends_part = λ m _. stops_nothing m; ends = λ m _. stops_nothing m; stops = λ m h. h })

  members_follow : (inner : ℕ) → Follows (λ negated d. members_close inner negated d) (is_mark_of 94) nothing
  unfolding starts_member is_keyword is_item_word is_member_word is_modifier_word is_joining_word is_predicate_word
  members_follow inner negated d m w b ([], n, spelled, rest) stop =
      apart_next (is_mark_of 93) (is_mark_of 94) (apart_mark 93 (is_mark_of 94) refl) m (subst (λ (x : List Token). next_is (is_mark_of 93) x ≡ true) (sym spelled) (begins_mark 93 d n tt rest.1 rest.2))
  members_follow inner negated d m w b (x ∷ xs, n, spelled, rest) stop =
      apart_next starts_member (is_mark_of 94) (apart_back (is_mark_of 94) starts_member (apart_mark 94 starts_member refl)) m ((led_member 0).begins d m x spelled.0 spelled.1)

  class_inside : (inner room : ℕ) → room ≡ suc inner
      → Exact (λ d. whether (mark 94) >>= λ negated. many (a_member d) >>= λ members. mark 93 >> done (expr.Class negated members)) nothing 0 inner inner room end
      (λ ts. and_read (whether_mark end 94 ts) (λ negated ts. and_read (read_members end (room - 1) ts) (λ members ts. and_read (read_mark end 93 ts) (λ _. read_done (expr.Class negated members)))))
  unfolding starts_member is_keyword is_item_word is_member_word is_modifier_word is_joining_word is_predicate_word
  class_inside inner room e =
      let same : inner ≡ room - 1 = omega arith in
      exact_then (λ d. whether (mark 94)) (λ negated d. members_close inner negated d) (is_mark_of 94) nothing 0 inner inner inner room end (whether_mark end 94)
      (λ negated ts. and_read (read_members end (room - 1) ts) (λ members ts. and_read (read_mark end 93 ts) (λ _. read_done (expr.Class negated members)))) (omega arith) (exact_whether 94 inner inner refl)
      (λ negated. closed_by (λ members. expr.Class negated members) 93 room nothing (omega arith) (subst (λ (n : ℕ). Exact (λ d. many (a_member d)) starts_member 0 inner inner inner end (read_members end n)) same (exact_members inner)) (closes_to inner room e) refl)
      (members_follow inner)

  pub led_class : (room : ℕ) → Leading (λ d. class d) (is_mark_of 91) nothing 1 room room room end (read_class end room)
  unfolding class read_class
  led_class room = led_open 91 refl (class_inside 0 1 refl).completed (λ inner e. class_inside inner room e)

  times_inside : (inner room : ℕ) → room ≡ suc inner → Exact (λ d. number >>= λ n. mark 125 >> done n) nothing 0 inner inner room end (λ ts. and_read (read_number end ts) (λ n ts. and_read (read_mark end 125 ts) (λ _. read_done n)))
  times_inside inner room e = closed_by (λ n. n) 125 room nothing (omega arith) (exact_number nothing 0 inner inner end) (closes_to inner room e) refl

  pub led_times : (room : ℕ) → Leading (λ d. times d) (is_mark_of 123) nothing 1 room room room end (read_times end room)
  unfolding times read_times
  led_times room = led_open 123 refl (times_inside 0 1 refl).completed (λ inner e. times_inside inner room e)

  -- what a path expression goes on with behind an expression, a part in a row, a part of `&` and a part of `|`
  abbrev pub is_postfix : TokenKind → Bool
  is_postfix kind = is_mark_of 42 kind || (is_mark_of 43 kind || (is_mark_of 63 kind || is_mark_of 123 kind))

  abbrev pub path_goes_on : TokenKind → Bool
  path_goes_on kind = ((is_postfix kind || starts_path kind) || is_mark_of 38 kind) || is_mark_of 124 kind

  stops_star : (ts : List Token) → Stops is_postfix ts → Stops (is_mark_of 42) ts
  stops_star ts h = stops_first (is_mark_of 42) (λ kind. is_mark_of 43 kind || (is_mark_of 63 kind || is_mark_of 123 kind)) ts h

  stops_others : (ts : List Token) → Stops is_postfix ts → Stops (λ kind. is_mark_of 43 kind || (is_mark_of 63 kind || is_mark_of 123 kind)) ts
  stops_others ts h = stops_second (is_mark_of 42) (λ kind. is_mark_of 43 kind || (is_mark_of 63 kind || is_mark_of 123 kind)) ts h

  stops_plus : (ts : List Token) → Stops is_postfix ts → Stops (is_mark_of 43) ts
  stops_plus ts h = stops_first (is_mark_of 43) (λ kind. is_mark_of 63 kind || is_mark_of 123 kind) ts (stops_others ts h)

  stops_maybe : (ts : List Token) → Stops is_postfix ts → Stops (is_mark_of 63) ts
  stops_maybe ts h = stops_first (is_mark_of 63) (is_mark_of 123) ts (stops_second (is_mark_of 43) (λ kind. is_mark_of 63 kind || is_mark_of 123 kind) ts (stops_others ts h))

  stops_times : (ts : List Token) → Stops is_postfix ts → Stops (is_mark_of 123) ts
  stops_times ts h = stops_second (is_mark_of 63) (is_mark_of 123) ts (stops_second (is_mark_of 43) (λ kind. is_mark_of 63 kind || is_mark_of 123 kind) ts (stops_others ts h))

  abbrev several : PathExpr → ℕ → Phrase PathExpr
  several e d = times d >>= λ n. done (expr.Times e n)

  abbrev marked : ℕ → PathExpr → ℕ → Phrase PathExpr
  marked byte e d = mark byte >> done e

  led_several : (room : ℕ) (e : PathExpr) → Leading (several e) (is_mark_of 123) nothing 1 room room room end (λ ts. and_read (read_times end room ts) (λ n. read_done (expr.Times e n)))
  led_several room e = led_make (λ n. expr.Times e n) (omega arith) (led_times room)

  several_or_done : (room : ℕ) (e : PathExpr)
      → Exact (λ d. several e d or done e) is_postfix 0 room room room end (choose (is_mark_of 123) (λ ts. and_read (read_times end room ts) (λ n. read_done (expr.Times e n))) (read_done e))
  several_or_done room e =
      exact_choose (several e) (λ d. done e) (is_mark_of 123) is_postfix room room room end 0 1 0 (λ ts. and_read (read_times end room ts) (λ n. read_done (expr.Times e n))) (read_done e) (led_several room e).begins
      (avoids_done e (is_mark_of 123) is_postfix stops_times) (widen 1 (omega arith) (led_several room e).exact) (exact_done e is_postfix 0 room room end)
      (second_completes (several e) (λ d. done e) 0 (exact_done e is_postfix 0 room room end).completed)

  avoids_last : (e : PathExpr) (f : TokenKind → Bool) → Apart f (is_mark_of 123) → ((ts : List Token) → Stops is_postfix ts → Stops f ts) → Avoids (λ d. several e d or done e) f is_postfix
  avoids_last e f apart stops = avoids_or (several e) (λ d. done e) f is_postfix (avoids_begins (several e) f (is_mark_of 123) is_postfix (led_several 0 e).begins apart) (avoids_done e f is_postfix stops)

  avoids_marked : (byte : ℕ) (e : PathExpr) (f : TokenKind → Bool) → Apart f (is_mark_of byte) → Avoids (marked byte e) f is_postfix
  avoids_marked byte e f apart = avoids_begins (marked byte e) f (is_mark_of byte) is_postfix (begins_then (λ d. mark byte) (λ _ d. done e) (is_mark_of byte) (begins_mark byte)) apart

  pub exact_postfix : (room : ℕ) (e : PathExpr) → Exact (λ d. postfix d e) is_postfix 0 room room room end (read_postfix end room e)
  unfolding postfix read_postfix
  exact_postfix room e =
      mark_or_else 42 room (omega arith) refl (exact_done (expr.Star e) is_postfix 0 room room end)
      (mark_or_else 43 room (omega arith) refl (exact_done (expr.Plus e) is_postfix 0 room room end)
      (mark_or_else 63 room (omega arith) refl (exact_done (expr.Maybe e) is_postfix 0 room room end) (several_or_done room e)
      (avoids_last e (is_mark_of 63) (apart_mark 63 (is_mark_of 123) refl) stops_maybe))
      (avoids_or (marked 63 (expr.Maybe e)) (λ d. several e d or done e) (is_mark_of 43) is_postfix (avoids_marked 63 (expr.Maybe e) (is_mark_of 43) (apart_mark 43 (is_mark_of 63) refl))
      (avoids_last e (is_mark_of 43) (apart_mark 43 (is_mark_of 123) refl) stops_plus)))
      (avoids_or (marked 43 (expr.Plus e)) (λ d. marked 63 (expr.Maybe e) d or (several e d or done e)) (is_mark_of 42) is_postfix (avoids_marked 43 (expr.Plus e) (is_mark_of 42) (apart_mark 42 (is_mark_of 43) refl))
      (avoids_or (marked 63 (expr.Maybe e)) (λ d. several e d or done e) (is_mark_of 42) is_postfix (avoids_marked 63 (expr.Maybe e) (is_mark_of 42) (apart_mark 42 (is_mark_of 63) refl))
      (avoids_last e (is_mark_of 42) (apart_mark 42 (is_mark_of 123) refl) stops_star)))

  -- what stands in the brackets, where so many may be nested
  abbrev pub inner_path : ℕ → Phrase PathExpr
  inner_path zero = none
  inner_path (suc d) = path d

  abbrev in_group : Phrase PathExpr → Phrase PathExpr
  in_group inside = (mark 41 >> done expr.Empty) or (inside >>= λ e. mark 41 >> done e)

  abbrev pub Inside : ℕ → Reading PathExpr → Type 0
  Inside room inside = (inner : ℕ) → room ≡ suc inner → Leading (λ d. path d) starts_path path_goes_on 0 inner inner inner end inside

  group_inside : (room : ℕ) (inside : Reading PathExpr) → Inside room inside → (inner : ℕ) → room ≡ suc inner
      → Exact (λ d. in_group (path d)) nothing 0 inner inner room end (choose (is_mark_of 41) (λ ts. and_read (read_mark end 41 ts) (λ _. read_done expr.Empty)) (λ ts. and_read (inside ts) (λ e ts. and_read (read_mark end 41 ts) (λ _. read_done e))))
  unfolding starts_path starts_member is_keyword is_item_word is_member_word is_modifier_word is_joining_word is_predicate_word
  group_inside room inside exact inner e =
      let whole = exact inner e in
      let second : Leading (λ d. path d >>= λ e. mark 41 >> done e) starts_path nothing 0 inner inner room end (λ ts. and_read (inside ts) (λ e ts. and_read (read_mark end 41 ts) (λ _. read_done e))) = record {
        exact = closed_by (λ e. e) 41 room nothing (omega arith) whole.exact (closes_to inner room e) refl;
        begins = begins_then (λ d. path d) (λ e d. mark 41 >> done e) starts_path whole.begins;
      }
      in
      (or_mark 41 room (omega arith) (closes_to inner room e) (exact_done expr.Empty nothing 0 inner room end) second refl).exact

  group_completed : Completed (λ d. in_group (path d)) 0
  group_completed =
      let empty : Exact (λ d. mark 41 >> done expr.Empty) nothing 0 0 0 1 0 (λ ts. and_read (read_mark 0 41 ts) (λ _. read_done expr.Empty)) = behind_mark 41 1 (omega arith) refl (exact_done expr.Empty nothing 0 0 1 0) in
      first_completes (λ d. mark 41 >> done expr.Empty) (λ d. path d >>= λ e. mark 41 >> done e) 0 empty.completed

  to_group : (d : ℕ) (a : List Token) (v : PathExpr) (b : List Token) → bracketed d (mark 40) (λ d. in_group (path d)) a v b → group d (inner_path d) a v b
  unfolding group
  to_group zero a v b h = h
  to_group (suc d) a v b h = h

  from_group : (d : ℕ) (a : List Token) (v : PathExpr) (b : List Token) → group d (inner_path d) a v b → bracketed d (mark 40) (λ d. in_group (path d)) a v b
  unfolding group
  from_group zero a v b h = h
  from_group (suc d) a v b h = h

  led_group : (room : ℕ) (inside : Reading PathExpr) → Inside room inside → Leading (λ d. group d (inner_path d)) (is_mark_of 40) nothing 1 room room room end (read_group end room inside)
  led_group room inside exact =
      let opened = led_open 40 refl group_completed (group_inside room inside exact) in
      record {
        exact = exact_as (λ d. bracketed d (mark 40) (λ d. in_group (path d))) (λ d. group d (inner_path d)) (read_group end room inside) nothing 1 room room room end to_group from_group opened.exact;
        begins = λ d a v b h. opened.begins d a v b (from_group d a v b h);
      }

  reference_apart : Apart is_reference_kind starts_member
  unfolding starts_member
  reference_apart (Reference n) e = refl
  reference_apart (Mark byte) e = absurd (let clash = e in cc)
  reference_apart (Bare n) e = absurd (let clash = e in cc)
  reference_apart (Quoted n) e = absurd (let clash = e in cc)

  abbrev starts_atom : TokenKind → Bool
  starts_atom kind = is_mark_of 46 kind || (is_mark_of 40 kind || (is_mark_of 91 kind || (is_reference_kind kind || starts_member kind)))

  abbrev referred : ℕ → Phrase PathExpr
  referred d = reference >>= λ n. done (expr.Reference n.name n.at)

  abbrev one_member : ℕ → Phrase PathExpr
  one_member d = a_member d >>= λ m. done (expr.One m)

  led_atom : (room : ℕ) (inside : Reading PathExpr) → Inside room inside → Leading (λ d. atom d (inner_path d)) starts_atom nothing 0 room room room end (read_atom end room (read_group end room inside))
  unfolding atom starts_member is_keyword is_item_word is_member_word is_modifier_word is_joining_word is_predicate_word
  led_atom room inside exact =
      let members = led_make (λ m. expr.One m) (omega arith) (led_member room) in
      let references : Leading referred is_reference_kind nothing 0 room room room end (λ ts. and_read (read_reference end ts) (λ n. read_done (expr.Reference n.name n.at))) =
      led_make (λ n. expr.Reference n.name n.at) (omega arith) (record { exact = exact_reference nothing 0 room room end; begins = begins_reference })
      in
      let third = led_or {least = 0} references members reference_apart (second_completes referred one_member 0 members.exact.completed) in
      let second = led_or {least = 0} (led_class room) third (apart_mark 91 (λ kind. is_reference_kind kind || starts_member kind) refl) (second_completes (λ d. class d) (λ d. referred d or one_member d) 0 third.exact.completed) in
      let first = led_or {least = 0} (led_group room inside exact) second (apart_mark 40 (λ kind. is_mark_of 91 kind || (is_reference_kind kind || starts_member kind)) refl)
      (second_completes (λ d. group d (inner_path d)) (λ d. class d or (referred d or one_member d)) 0 second.exact.completed)
      in
      or_mark 46 room (omega arith) refl (exact_done expr.Any nothing 0 room room end) first refl

  abbrev with_postfix : ℕ → Phrase PathExpr
  with_postfix d = atom d (inner_path d) >>= λ e. postfix d e

  led_postfixed : (room : ℕ) (inside : Reading PathExpr) → Inside room inside → Leading with_postfix starts_atom is_postfix 0 room room room end (read_postfixed end room (read_atom end room (read_group end room inside)))
  led_postfixed room inside exact = led_then (omega arith) (led_atom room inside exact) (λ e. exact_postfix room e) (follows_nothing (λ e d. postfix d e) is_postfix)

  abbrev pub one_negation : ℕ → Phrase PathExpr
  one_negation d = negation d (inner_path d)

  abbrev reads_negation : ℕ → Reading PathExpr → Reading PathExpr
  reads_negation room inside = read_negation end (read_postfixed end room (read_atom end room (read_group end room inside)))

  led_negation : (room : ℕ) (inside : Reading PathExpr) → Inside room inside → Leading one_negation starts_path is_postfix 0 room room room end (reads_negation room inside)
  unfolding negation starts_path starts_member is_keyword is_item_word is_member_word is_modifier_word is_joining_word is_predicate_word
  led_negation room inside exact =
      let part = led_postfixed room inside exact in
      or_mark 33 room (omega arith) refl (make_of (λ e. expr.Not e) (omega arith) part.exact) part refl

  names_apart : Apart is_name_kind is_postfix
  names_apart (Bare n) e = refl
  names_apart (Quoted n) e = refl
  names_apart (Mark byte) e = absurd (let clash = e in cc)
  names_apart (Reference n) e = absurd (let clash = e in cc)

  words_apart : (bytes : List ℕ) → Apart (is_word_of bytes) is_postfix
  words_apart bytes = apart_word bytes is_postfix refl

  references_apart : Apart is_reference_kind is_postfix
  references_apart (Reference n) e = refl
  references_apart (Mark byte) e = absurd (let clash = e in cc)
  references_apart (Bare n) e = absurd (let clash = e in cc)
  references_apart (Quoted n) e = absurd (let clash = e in cc)

  members_apart : Apart starts_member is_postfix
  unfolding starts_member
  members_apart =
      apart_or (is_word_of (codes "drop")) (λ kind. is_word_of (codes "loop") kind || (is_picking kind || is_name_kind kind)) is_postfix (words_apart (codes "drop"))
      (apart_or (is_word_of (codes "loop")) (λ kind. is_picking kind || is_name_kind kind) is_postfix (words_apart (codes "loop"))
      (apart_or is_picking is_name_kind is_postfix
      (apart_or (is_word_of (codes "interface")) (λ kind. is_word_of (codes "device") kind || (is_word_of (codes "group") kind || is_word_of (codes "tag") kind)) is_postfix (words_apart (codes "interface"))
      (apart_or (is_word_of (codes "device")) (λ kind. is_word_of (codes "group") kind || is_word_of (codes "tag") kind) is_postfix (words_apart (codes "device"))
      (apart_or (is_word_of (codes "group")) (is_word_of (codes "tag")) is_postfix (words_apart (codes "group")) (words_apart (codes "tag")))))
      names_apart))

  starts_apart : Apart starts_path is_postfix
  unfolding starts_path
  starts_apart =
      apart_or (is_mark_of 33) starts_atom is_postfix (apart_mark 33 is_postfix refl)
      (apart_or (is_mark_of 46) (λ kind. is_mark_of 40 kind || (is_mark_of 91 kind || (is_reference_kind kind || starts_member kind))) is_postfix (apart_mark 46 is_postfix refl)
      (apart_or (is_mark_of 40) (λ kind. is_mark_of 91 kind || (is_reference_kind kind || starts_member kind)) is_postfix (apart_mark 40 is_postfix refl)
      (apart_or (is_mark_of 91) (λ kind. is_reference_kind kind || starts_member kind) is_postfix (apart_mark 91 is_postfix refl)
      (apart_or is_reference_kind starts_member is_postfix references_apart members_apart))))

  to_next : (d : ℕ) (a : List Token) (v : PathExpr) (b : List Token) → one_negation d a v b → (done tt >> one_negation d) a v b
  to_next d a v b h = (tt, a, (refl, refl), h)

  from_next : (d : ℕ) (a : List Token) (v : PathExpr) (b : List Token) → (done tt >> one_negation d) a v b → one_negation d a v b
  from_next d a v b h = subst (λ (x : List Token). one_negation d x v b) (sym h.2.1) h.3

  abbrev in_a_row : TokenKind → Bool
  in_a_row kind = is_postfix kind || starts_path kind

  abbrev one_sequence : ℕ → Phrase PathExpr
  one_sequence d = chain expr.Seq (done tt) (one_negation d)

  led_sequence : (room : ℕ) (inside : Reading PathExpr) → Inside room inside → Leading one_sequence starts_path in_a_row 0 room room room end (read_sequence (reads_negation room inside))
  led_sequence room inside exact =
      let part = led_negation room inside exact in
      let next : Leading (λ d. done tt >> one_negation d) starts_path is_postfix 0 room room room end (reads_negation room inside) = record {
        exact = exact_as one_negation (λ d. done tt >> one_negation d) (reads_negation room inside) is_postfix 0 room room room end to_next from_next part.exact;
        begins = λ d a v b h. part.begins d a v b (from_next d a v b h);
      }
      in
      led_chain expr.Seq starts_path (omega arith) part next starts_apart

  abbrev one_conjunction : ℕ → Phrase PathExpr
  one_conjunction d = chain expr.And (mark 38) (one_sequence d)

  led_conjunction : (room : ℕ) (inside : Reading PathExpr) → Inside room inside
      → Leading one_conjunction starts_path (λ kind. in_a_row kind || is_mark_of 38 kind) 0 room room room end (read_conjunction end (read_sequence (reads_negation room inside)))
  unfolding starts_path starts_member is_keyword is_item_word is_member_word is_modifier_word is_joining_word is_predicate_word
  led_conjunction room inside exact =
      let part = led_sequence room inside exact in
      led_chain expr.And (is_mark_of 38) (omega arith) part (led_mark 38 room (omega arith) refl part.exact) (apart_mark 38 in_a_row refl)

  led_expression : (room : ℕ) (inside : Reading PathExpr) → Inside room inside → Leading (λ d. expression d (inner_path d)) starts_path path_goes_on 0 room room room end (read_expression end room inside)
  unfolding expression starts_path starts_member is_keyword is_item_word is_member_word is_modifier_word is_joining_word is_predicate_word
  led_expression room inside exact =
      let part = led_conjunction room inside exact in
      led_chain expr.Alt (is_mark_of 124) (omega arith) part (led_mark 124 room (omega arith) refl part.exact) (apart_mark 124 (λ kind. in_a_row kind || is_mark_of 38 kind) refl)

  to_path : (d : ℕ) (a : List Token) (v : PathExpr) (b : List Token) → expression d (inner_path d) a v b → path d a v b
  unfolding path
  to_path zero a v b h = h
  to_path (suc d) a v b h = h

  from_path : (d : ℕ) (a : List Token) (v : PathExpr) (b : List Token) → path d a v b → expression d (inner_path d) a v b
  unfolding path
  from_path zero a v b h = h
  from_path (suc d) a v b h = h

  led_over : (room : ℕ) (inside : Reading PathExpr) → Inside room inside → Leading (λ d. path d) starts_path path_goes_on 0 room room room end (read_expression end room inside)
  led_over room inside exact =
      let whole = led_expression room inside exact in
      record {
        exact = exact_as (λ d. expression d (inner_path d)) (λ d. path d) (read_expression end room inside) path_goes_on 0 room room room end to_path from_path whole.exact;
        begins = λ d a v b h. whole.begins d a v b (from_path d a v b h);
      }

  same_less : (n m : ℕ) → suc n ≡ suc m → n ≡ m
  same_less n m e = omega arith

  pub led_path : (room : ℕ) → Leading (λ d. path d) starts_path path_goes_on 0 room room room end (read_path end room)
  unfolding read_path
  led_path zero = led_over zero (λ _. Err Memory) (λ inner e. absurd (omega arith))
  led_path (suc room) = led_over (suc room) (read_path end room) (λ inner e. subst (λ (n : ℕ). Leading (λ d. path d) starts_path path_goes_on 0 n n n end (read_path end room)) (same_less room inner e) (led_path room))
