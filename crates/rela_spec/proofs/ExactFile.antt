-- Items and whole texts are read exactly.
use Rattle.std.proofs.Common.{◌≡◌, ℕ, Bool, true, false, ◌||◌, List, [], ◌∷◌, refl, sym, ◌∙◌, subst, arith}
use Rattle.std.specs.Prelude.{codes}
use Rattle.rela_names.specs.declared.level.Level.{Level}
use Rattle.rela_names.specs.declared.level.Level.TheVariants as level
use Rattle.rela_flows.specs.declared.predicate.Predicate.{Predicate}
use Rattle.rela_flows.specs.declared.predicate.Predicate.TheVariants as flows
use Rattle.rela_lex.specs.declared.token.Token.{Token}
use Rattle.rela_lex.specs.declared.token.TokenKind.{TokenKind}
use Rattle.rela_spec.specs.Grammar.{is_mark_of, level_word, level_line, condition, path_item, spec_item, check_item, an_item, file}
use Rattle.rela_spec.specs.GrammarWords.{Named, mark, word, name}
use Rattle.rela_spec.specs.GrammarPaths.{path}
use Rattle.rela_spec.specs.GrammarSpecs.{body}
use Rattle.rela_spec.specs.GrammarPredicates.{predicate}
use Rattle.rela_spec.specs.Keywords.{is_keyword, is_item_word, is_member_word, is_modifier_word, is_joining_word, is_predicate_word}
use Rattle.rela_spec.specs.Phrases.{Phrase, done, whether, many, ◌>>=◌, ◌>>◌}
use Rattle.rela_spec.specs.ReadWords.{is_word_of, is_name_kind, read_mark, read_name, whether_word}
use Rattle.rela_spec.specs.ReadPaths.{starts_member, starts_path, read_path}
use Rattle.rela_spec.specs.ReadPredicates.{read_predicate}
use Rattle.rela_spec.specs.ReadSpecs.{read_body}
use Rattle.rela_spec.specs.ReadFile.{read_level_word, read_level_line, read_condition, read_path_item, read_spec_item, read_check_item, read_item, read_items, read_file}
use Rattle.rela_spec.specs.Readings.{Reading, next_is, and_read, read_done}
use Rattle.rela_spec.specs.declared.tree.Item.{Item}
use Rattle.rela_spec.specs.declared.tree.Item.TheVariants as item
use Rattle.rela_spec.specs.declared.tree.SpecFile.{SpecFile}
use Rattle.rela_spec.proofs.Exact.{Stops, Exact}
use Rattle.rela_spec.proofs.Then.{Follows, exact_then}
use Rattle.rela_spec.proofs.Choose.{exact_done, weaken}
use Rattle.rela_spec.proofs.Many.{all_exact}
use Rattle.rela_spec.proofs.ExactPaths.{led_path}
use Rattle.rela_spec.proofs.ExactPredicates.{predicate_goes_on, led_predicate}
use Rattle.rela_spec.proofs.ExactPrefixes.{AreFound}
use Rattle.rela_spec.proofs.ExactSpecs.{led_body}
use Rattle.rela_spec.proofs.ExactWords.{nothing, stops_nothing, stops_first, stops_second, Apart, apart_mark, apart_word, apart_back, apart_next, begins_mark, begins_name, begins_then, avoids_done, follows_nothing, follows_begins, exact_name}
use Rattle.rela_spec.proofs.Leading.{Leading, behind_mark, led_word, or_word, word_or_else, closed_by}

-- any token
abbrev pub anything : TokenKind → Bool
anything kind = true

module _ (are_found : AreFound) (end : ℕ) where
  abbrev starts_level : TokenKind → Bool
  starts_level kind = is_word_of (codes "interface") kind || (is_word_of (codes "device") kind || is_word_of (codes "group") kind)

  led_level_word : (room from : ℕ) → Leading (λ d. level_word) starts_level nothing 0 room from from end (read_level_word end)
  unfolding level_word read_level_word
  led_level_word room from =
      or_word (codes "interface") (omega arith) (exact_done level.Interface nothing 0 room from end)
      (or_word (codes "device") (omega arith) (exact_done level.Device nothing 0 room from end) (led_word (codes "group") (omega arith) (exact_done level.Group nothing 0 room from end)) refl)
      refl

  exact_level_line : (room : ℕ) → Exact (λ d. level_line) (is_word_of (codes "level")) 0 room room room end (read_level_line end)
  unfolding level_line read_level_line
  exact_level_line room =
      word_or_else (codes "level") (omega arith) (closed_by (λ l. l) 59 room (is_word_of (codes "level")) (omega arith) (led_level_word room room).exact refl refl)
      (exact_done level.Interface (is_word_of (codes "level")) 0 room room end) (avoids_done level.Interface (is_word_of (codes "level")) (is_word_of (codes "level")) (λ ts h. h))

  abbrev condition_goes_on : TokenKind → Bool
  condition_goes_on kind = predicate_goes_on are_found end kind || is_word_of (codes "for") kind

  exact_condition : (room : ℕ) → Exact (λ d. condition d) condition_goes_on 0 room room room end (read_condition end room)
  unfolding condition read_condition
  exact_condition room =
      word_or_else (codes "for") (omega arith)
      (weaken (λ d. predicate d) (read_predicate end room) (predicate_goes_on are_found end) condition_goes_on 0 0 room room room end (omega arith) (stops_first (predicate_goes_on are_found end) (is_word_of (codes "for"))) (led_predicate are_found end room).exact)
      (exact_done flows.All condition_goes_on 0 room room end) (avoids_done flows.All (is_word_of (codes "for")) condition_goes_on (stops_second (predicate_goes_on are_found end) (is_word_of (codes "for"))))

  abbrev path_of : Named → ℕ → Phrase Item
  path_of n d = mark 61 >> (path d >>= λ e. mark 59 >> done (item.Path n.name n.at e))

  exact_path_item : (room : ℕ) → Exact (λ d. path_item d) nothing 0 room room room end (read_path_item end room)
  unfolding path_item read_path_item starts_path starts_member is_keyword is_item_word is_member_word is_modifier_word is_joining_word is_predicate_word
  exact_path_item room =
      exact_then (λ d. name) path_of nothing nothing 0 room room room room end (read_name end)
      (λ n ts. and_read (read_mark end 61 ts) (λ _ ts. and_read (read_path end room ts) (λ e ts. and_read (read_mark end 59 ts) (λ _. read_done (item.Path n.name n.at e))))) (omega arith) (exact_name nothing 0 room room end)
      (λ n. behind_mark 61 room (omega arith) refl (closed_by (λ e. item.Path n.name n.at e) 59 room nothing (omega arith) (led_path end room).exact refl refl)) (follows_nothing path_of nothing)

  abbrev spec_of : Named → ℕ → Phrase Item
  spec_of n d = mark 61 >> (body d >>= λ s. mark 59 >> done (item.Spec n.name n.at s))

  exact_spec_item : (room : ℕ) → Exact (λ d. spec_item d) nothing 0 room room room end (read_spec_item end room)
  unfolding spec_item read_spec_item
  exact_spec_item room =
      exact_then (λ d. name) spec_of nothing nothing 0 room room room room end (read_name end)
      (λ n ts. and_read (read_mark end 61 ts) (λ _ ts. and_read (read_body end room ts) (λ s ts. and_read (read_mark end 59 ts) (λ _. read_done (item.Spec n.name n.at s))))) (omega arith) (exact_name nothing 0 room room end)
      (λ n. behind_mark 61 room (omega arith) refl (closed_by (λ s. item.Spec n.name n.at s) 59 room nothing (omega arith) (led_body end room).exact refl refl)) (follows_nothing spec_of nothing)

  abbrev body_of : Bool → Named → Predicate → ℕ → Phrase Item
  body_of at_most n when d = mark 58 >> (body d >>= λ s. mark 59 >> done (item.Check at_most n.name n.at when s))

  abbrev read_body_of : ℕ → Bool → Named → Predicate → Reading Item
  read_body_of room at_most n when ts = and_read (read_mark end 58 ts) (λ _ ts. and_read (read_body end room ts) (λ s ts. and_read (read_mark end 59 ts) (λ _. read_done (item.Check at_most n.name n.at when s))))

  exact_body_of : (room : ℕ) (at_most : Bool) (n : Named) (when : Predicate) → Exact (body_of at_most n when) nothing 0 room room room end (read_body_of room at_most n when)
  exact_body_of room at_most n when = behind_mark 58 room (omega arith) refl (closed_by (λ s. item.Check at_most n.name n.at when s) 59 room nothing (omega arith) (led_body end room).exact refl refl)

  abbrev when_of : Bool → Named → ℕ → Phrase Item
  when_of at_most n d = condition d >>= λ when. body_of at_most n when d

  exact_when_of : (room : ℕ) (at_most : Bool) (n : Named) → Exact (when_of at_most n) nothing 0 room room room end (λ ts. and_read (read_condition end room ts) (read_body_of room at_most n))
  exact_when_of room at_most n =
      exact_then (λ d. condition d) (body_of at_most n) condition_goes_on nothing 0 room room room room end (read_condition end room) (read_body_of room at_most n) (omega arith) (exact_condition room) (exact_body_of room at_most n)
      (follows_begins (body_of at_most n) (is_mark_of 58) condition_goes_on nothing
      (λ when. begins_then (λ d. mark 58) (λ _ d. body d >>= λ s. mark 59 >> done (item.Check at_most n.name n.at when s)) (is_mark_of 58) (begins_mark 58)) (apart_mark 58 condition_goes_on refl))

  abbrev name_of : Bool → ℕ → Phrase Item
  name_of at_most d = name >>= λ n. when_of at_most n d

  exact_name_of : (room : ℕ) (at_most : Bool) → Exact (name_of at_most) nothing 0 room room room end (λ ts. and_read (read_name end ts) (λ n ts. and_read (read_condition end room ts) (read_body_of room at_most n)))
  exact_name_of room at_most =
      exact_then (λ d. name) (when_of at_most) nothing nothing 0 room room room room end (read_name end) (λ n ts. and_read (read_condition end room ts) (read_body_of room at_most n)) (omega arith) (exact_name nothing 0 room room end)
      (exact_when_of room at_most) (follows_nothing (when_of at_most) nothing)

  abbrev atmost : TokenKind → Bool
  atmost = is_word_of (codes "atmost")

  exact_at_most : (room : ℕ) → Exact (λ d. whether (word (codes "atmost"))) atmost 0 room room room end (whether_word end (codes "atmost"))
  exact_at_most room = word_or_else (codes "atmost") (omega arith) (exact_done true atmost 0 room room end) (exact_done false atmost 0 room room end) (avoids_done false atmost atmost (λ ts h. h))

  names_apart : Apart is_name_kind atmost
  unfolding is_keyword is_item_word is_member_word is_modifier_word is_joining_word is_predicate_word
  names_apart = apart_back atmost is_name_kind (apart_word (codes "atmost") is_name_kind refl)

  exact_check_item : (room : ℕ) → Exact (λ d. check_item d) nothing 0 room room room end (read_check_item end room)
  unfolding check_item read_check_item
  exact_check_item room =
      exact_then (λ d. whether (word (codes "atmost"))) name_of atmost nothing 0 room room room room end (whether_word end (codes "atmost"))
      (λ at_most ts. and_read (read_name end ts) (λ n ts. and_read (read_condition end room ts) (read_body_of room at_most n))) (omega arith) (exact_at_most room) (exact_name_of room)
      (follows_begins name_of is_name_kind atmost nothing (λ at_most. begins_then (λ d. name) (when_of at_most) is_name_kind begins_name) names_apart)

  abbrev starts_item : TokenKind → Bool
  starts_item kind = is_word_of (codes "path") kind || (is_word_of (codes "spec") kind || is_word_of (codes "check") kind)

  led_item : (room : ℕ) → Leading (λ d. an_item d) starts_item nothing 0 room room room end (read_item end room)
  unfolding an_item read_item
  led_item room =
      or_word (codes "path") (omega arith) (exact_path_item room)
      (or_word (codes "spec") (omega arith) (exact_spec_item room) (led_word (codes "check") (omega arith) (exact_check_item room)) refl)
      refl

  some_next : (passes : TokenKind → Bool) (ts : List Token) → next_is passes ts ≡ true → next_is anything ts ≡ true
  some_next passes [] e = e
  some_next passes (t ∷ ts) e = refl

  exact_items : (room : ℕ) → Exact (λ d. many (an_item d)) anything 0 room room room end (read_items end room)
  unfolding read_items
  exact_items room =
      let one = led_item room in
      all_exact (λ d. an_item d) anything nothing anything 0 room room end (read_item end room) (record {
        few = omega arith;
        part = one.exact;
        begins = λ d a v b h. some_next starts_item a (one.begins d a v b h);
        ends_part = λ m _. stops_nothing m;
        ends = λ m _. stops_nothing m;
        stops = λ m h. h;
      })

  abbrev items_of : Level → ℕ → Phrase SpecFile
  items_of l d = many (an_item d) >>= λ items. done (record { level = l; items = items })

  abbrev a_file : Level → List Item → SpecFile
  a_file l items = record { level = l; items = items }

  exact_items_of : (room : ℕ) (l : Level) → Exact (items_of l) anything 0 room room room end (λ ts. and_read (read_items end room ts) (λ items. read_done (a_file l items)))
  exact_items_of room l =
      exact_then (λ d. many (an_item d)) (λ items d. done (a_file l items)) anything anything 0 room room room room end (read_items end room) (λ items. read_done (a_file l items)) (omega arith) (exact_items room)
      (λ items. exact_done (a_file l items) anything 0 room room end) (λ items d m w b h stop. subst (Stops anything) (sym h.1) stop)

  levels_apart : Apart starts_item (is_word_of (codes "level"))
  levels_apart = apart_back (is_word_of (codes "level")) starts_item (apart_word (codes "level") starts_item refl)

  none_next : (ts : List Token) → Stops anything ts → Stops (is_word_of (codes "level")) ts
  none_next [] e = refl
  none_next (t ∷ ts) e = absurd (let clash = e in cc)

  items_follow : Follows items_of (is_word_of (codes "level")) anything
  items_follow l d m w b ([], n, spelled, last) stop = none_next m (subst (Stops anything) (sym (spelled ∙ last.1)) stop)
  items_follow l d m w b (x ∷ xs, n, spelled, last) stop = apart_next starts_item (is_word_of (codes "level")) levels_apart m ((led_item 0).begins d m x spelled.0 spelled.1)

  pub exact_file : (room : ℕ) → Exact (λ d. file d) anything 0 room room room end (read_file end room)
  unfolding file read_file
  exact_file room =
      exact_then (λ d. level_line) items_of (is_word_of (codes "level")) anything 0 room room room room end (read_level_line end) (λ l ts. and_read (read_items end room ts) (λ items. read_done (a_file l items))) (omega arith)
      (exact_level_line room) (exact_items_of room) items_follow
