-- Members are read exactly.
use Rattle.std.proofs.Common.{◌≡◌, ℕ, suc, Bool, ◌||◌, refl, arith}
use Rattle.std.specs.Prelude.{codes}
use Rattle.rela_lex.specs.declared.token.TokenKind.{TokenKind}
use Rattle.rela_locations.specs.declared.members.By.TheVariants as by
use Rattle.rela_spec.specs.GrammarPaths.{picked_by}
use Rattle.rela_spec.specs.GrammarWords.{mark}
use Rattle.rela_spec.specs.Keywords.{is_keyword, is_item_word, is_member_word, is_modifier_word, is_joining_word, is_predicate_word}
use Rattle.rela_spec.specs.Phrases.{done, bracketed, ◌>>=◌, ◌>>◌}
use Rattle.rela_spec.specs.ReadPaths.{is_picking, read_picked_by}
use Rattle.rela_spec.specs.ReadWords.{is_word_of, read_mark}
use Rattle.rela_spec.specs.Readings.{and_read, read_done}
use Rattle.rela_spec.specs.declared.tree.Member.TheVariants as member
use Rattle.rela_rirfile.specs.GrammarWords.{name, picked, a_member}
use Rattle.rela_rirfile.specs.Keywords.{is_reserved}
use Rattle.rela_rirfile.specs.ReadWords.{is_name_kind, read_name, read_picked, read_member}
use Rattle.rela_rirfile.proofs.Exact.{Exact}
use Rattle.rela_rirfile.proofs.Choose.{exact_done, second_completes}
use Rattle.rela_rirfile.proofs.ExactWords.{nothing, Apart, apart_word, apart_or, begins_name, follows_nothing, exact_name}
use Rattle.rela_rirfile.proofs.Leading.{Leading, widen, led_word, led_or, or_word, make_of, led_make, led_then, closed_by, led_open, closes_to}

module _ (end : ℕ) where
  led_picked_by : (room level : ℕ) → Leading (λ d. picked_by) is_picking nothing 0 room level level end (read_picked_by end)
  unfolding picked_by read_picked_by
  led_picked_by room level =
      or_word (codes "interface") (omega arith) (exact_done by.Interface nothing 0 room level end)
      (or_word (codes "device") (omega arith) (exact_done by.Device nothing 0 room level end)
      (or_word (codes "group") (omega arith) (exact_done by.Group nothing 0 room level end)
      (led_word (codes "tag") (omega arith) (exact_done by.Tag nothing 0 room level end))
      refl)
      refl)
      refl

  named_inside : (inner room : ℕ) → room ≡ suc inner → Exact (λ d. name >>= λ n. mark 41 >> done n) nothing 0 inner inner room end (λ ts. and_read (read_name end ts) (λ n ts. and_read (read_mark end 41 ts) (λ _. read_done n)))
  named_inside inner room e = closed_by (λ n. n) 41 room nothing (omega arith) (exact_name nothing 0 inner inner end) (closes_to inner room e) refl

  led_picked : (room : ℕ) → Leading (λ d. picked d) is_picking nothing 1 room room room end (read_picked end room)
  unfolding picked read_picked
  led_picked room =
      let by_word = led_picked_by room room in
      led_then (omega arith) (record { exact = widen 0 (omega arith) by_word.exact; begins = by_word.begins })
      (λ b. make_of (λ n. member.Within b n.name n.at) (omega arith) (led_open 40 refl (omega arith) (named_inside 0 1 refl).completed (λ inner e. named_inside inner room e)).exact)
      (follows_nothing (λ b d. bracketed d (mark 40) (λ _. name >>= λ n. mark 41 >> done n) >>= λ n. done (member.Within b n.name n.at)) nothing)

  picking_apart : Apart is_picking is_name_kind
  unfolding is_reserved is_keyword is_item_word is_member_word is_modifier_word is_joining_word is_predicate_word
  picking_apart =
      apart_or (is_word_of (codes "interface")) (λ kind. is_word_of (codes "device") kind || (is_word_of (codes "group") kind || is_word_of (codes "tag") kind)) is_name_kind (apart_word (codes "interface") is_name_kind refl)
      (apart_or (is_word_of (codes "device")) (λ kind. is_word_of (codes "group") kind || is_word_of (codes "tag") kind) is_name_kind (apart_word (codes "device") is_name_kind refl)
      (apart_or (is_word_of (codes "group")) (is_word_of (codes "tag")) is_name_kind (apart_word (codes "group") is_name_kind refl) (apart_word (codes "tag") is_name_kind refl)))

  led_here : (room level : ℕ) → Leading (λ d. name >>= λ n. done (member.Here n.name n.at)) is_name_kind nothing 0 room level level end (λ ts. and_read (read_name end ts) (λ n. read_done (member.Here n.name n.at)))
  led_here room level = led_make (λ n. member.Here n.name n.at) (omega arith) (record { exact = exact_name nothing 0 room level end; begins = begins_name })

  abbrev pub starts_member : TokenKind → Bool
  starts_member kind = is_word_of (codes "drop") kind || (is_word_of (codes "loop") kind || (is_picking kind || is_name_kind kind))

  pub led_member : (room : ℕ) → Leading (λ d. a_member d) starts_member nothing 0 room room room end (read_member end room)
  unfolding a_member read_member is_reserved is_keyword is_item_word is_member_word is_modifier_word is_joining_word is_predicate_word
  led_member room =
      let here = led_here room room in
      or_word (codes "drop") (omega arith) (exact_done member.Drop nothing 0 room room end)
      (or_word (codes "loop") (omega arith) (exact_done member.Loop nothing 0 room room end)
      (led_or {least = 0} (led_picked room) here picking_apart (second_completes (λ d. picked d) (λ d. name >>= λ n. done (member.Here n.name n.at)) 0 here.exact.completed))
      refl)
      refl
