-- Assertions and whole texts are read exactly.
use Rattle.std.proofs.Common.{◌≡◌, ℕ, Bool, true, ◌||◌, List, [], ◌∷◌, refl, sym, ◌∙◌, subst, arith}
use Rattle.std.specs.Prelude.{codes}
use Rattle.rela_names.specs.declared.level.Level.{Level}
use Rattle.rela_names.specs.declared.level.Level.TheVariants as level
use Rattle.rela_lex.specs.declared.token.Token.{Token}
use Rattle.rela_lex.specs.declared.token.TokenKind.{TokenKind}
use Rattle.rela_spec.specs.Grammar.{level_word, level_line}
use Rattle.rela_spec.specs.GrammarWords.{Named, mark}
use Rattle.rela_spec.specs.Phrases.{Phrase, done, many, ◌>>=◌, ◌>>◌}
use Rattle.rela_spec.specs.ReadFile.{read_level_word, read_level_line}
use Rattle.rela_spec.specs.ReadWords.{is_word_of, read_mark}
use Rattle.rela_spec.specs.Readings.{next_is, and_read, read_done}
use Rattle.rela_rirfile.specs.Grammar.{a_tree, an_assert, file}
use Rattle.rela_rirfile.specs.GrammarWords.{name}
use Rattle.rela_rirfile.specs.ReadFile.{read_assert, read_asserts, read_file}
use Rattle.rela_rirfile.specs.ReadTrees.{read_tree}
use Rattle.rela_rirfile.specs.ReadWords.{read_name}
use Rattle.rela_rirfile.specs.declared.written.Assert.{Assert}
use Rattle.rela_rirfile.specs.declared.written.AssertExpr.{AssertExpr}
use Rattle.rela_rirfile.specs.declared.written.AssertFile.{AssertFile}
use Rattle.rela_rirfile.proofs.Exact.{Stops, Exact}
use Rattle.rela_rirfile.proofs.Then.{Follows, exact_then}
use Rattle.rela_rirfile.proofs.Choose.{exact_done}
use Rattle.rela_rirfile.proofs.Many.{all_exact}
use Rattle.rela_rirfile.proofs.ExactTrees.{exact_tree}
use Rattle.rela_rirfile.proofs.ExactWords.{nothing, stops_nothing, Apart, apart_word, apart_back, apart_next, avoids_done, follows_nothing, exact_name}
use Rattle.rela_rirfile.proofs.Leading.{Leading, behind_mark, led_word, or_word, word_or_else, closed_by}

-- any token
abbrev pub anything : TokenKind → Bool
anything kind = true

module _ (end : ℕ) where
  abbrev starts_level : TokenKind → Bool
  starts_level kind = is_word_of (codes "interface") kind || (is_word_of (codes "device") kind || is_word_of (codes "group") kind)

  led_level_word : (room from : ℕ) → Leading (λ d. level_word) starts_level nothing 0 room from from end (read_level_word end)
  unfolding level_word read_level_word
  led_level_word room from =
      or_word (codes "interface") (omega arith) (exact_done level.Interface nothing 0 room from end)
      (or_word (codes "device") (omega arith) (exact_done level.Device nothing 0 room from end) (led_word (codes "group") (omega arith) (exact_done level.Group nothing 0 room from end)) refl)
      refl

  exact_level_line : (room : ℕ) → Exact (λ d. level_line) (is_word_of (codes "level")) 0 room room room end (read_level_line end)
  unfolding level_line read_level_line
  exact_level_line room =
      word_or_else (codes "level") (omega arith) (closed_by (λ l. l) 59 room (is_word_of (codes "level")) (omega arith) (led_level_word room room).exact refl refl)
      (exact_done level.Interface (is_word_of (codes "level")) 0 room room end) (avoids_done level.Interface (is_word_of (codes "level")) (is_word_of (codes "level")) (λ ts h. h))

  abbrev an_item : Named → AssertExpr → Assert
  an_item n tree = record { name = n.name; at = n.at; tree = tree }

  abbrev tree_of : Named → ℕ → Phrase Assert
  tree_of n d = mark 61 >> (a_tree d >>= λ tree. mark 59 >> done (an_item n tree))

  abbrev starts_assert : TokenKind → Bool
  starts_assert = is_word_of (codes "assert")

  led_assert : (room : ℕ) → Leading (λ d. an_assert d) starts_assert nothing 1 room room room end (read_assert end room)
  unfolding an_assert read_assert
  led_assert room =
      led_word (codes "assert") (omega arith) (exact_then (λ d. name) tree_of nothing nothing 1 room room room room end (read_name end)
      (λ n ts. and_read (read_mark end 61 ts) (λ _ ts. and_read (read_tree end room ts) (λ tree ts. and_read (read_mark end 59 ts) (λ _. read_done (an_item n tree))))) (omega arith) (exact_name nothing 1 room room end)
      (λ n. behind_mark 61 room (omega arith) refl (closed_by (an_item n) 59 room nothing (omega arith) (exact_tree end room) refl refl)) (follows_nothing tree_of nothing))

  some_next : (passes : TokenKind → Bool) (ts : List Token) → next_is passes ts ≡ true → next_is anything ts ≡ true
  some_next passes [] e = e
  some_next passes (t ∷ ts) e = refl

  exact_asserts : (room : ℕ) → Exact (λ d. many (an_assert d)) anything 0 room room room end (read_asserts end room)
  unfolding read_asserts
  exact_asserts room =
      let one = led_assert room in
      all_exact (λ d. an_assert d) anything nothing anything 1 room room end (read_assert end room) (record {
        few = omega arith;
        part = one.exact;
        begins = λ d a v b h. some_next starts_assert a (one.begins d a v b h);
        ends_part = λ m _. stops_nothing m;
        ends = λ m _. stops_nothing m;
        stops = λ m h. h;
      })

  abbrev a_file : Level → List Assert → AssertFile
  a_file l asserts = record { level = l; asserts = asserts }

  abbrev asserts_of : Level → ℕ → Phrase AssertFile
  asserts_of l d = many (an_assert d) >>= λ asserts. done (a_file l asserts)

  exact_asserts_of : (room : ℕ) (l : Level) → Exact (asserts_of l) anything 0 room room room end (λ ts. and_read (read_asserts end room ts) (λ asserts. read_done (a_file l asserts)))
  exact_asserts_of room l =
      exact_then (λ d. many (an_assert d)) (λ asserts d. done (a_file l asserts)) anything anything 0 room room room room end (read_asserts end room) (λ asserts. read_done (a_file l asserts)) (omega arith) (exact_asserts room)
      (λ asserts. exact_done (a_file l asserts) anything 0 room room end) (λ asserts d m w b h stop. subst (Stops anything) (sym h.1) stop)

  levels_apart : Apart starts_assert (is_word_of (codes "level"))
  levels_apart = apart_back (is_word_of (codes "level")) starts_assert (apart_word (codes "level") starts_assert refl)

  none_next : (ts : List Token) → Stops anything ts → Stops (is_word_of (codes "level")) ts
  none_next [] e = refl
  none_next (t ∷ ts) e = absurd (let clash = e in cc)

  asserts_follow : Follows asserts_of (is_word_of (codes "level")) anything
  asserts_follow l d m w b ([], n, spelled, last) stop = none_next m (subst (Stops anything) (sym (spelled ∙ last.1)) stop)
  asserts_follow l d m w b (x ∷ xs, n, spelled, last) stop = apart_next starts_assert (is_word_of (codes "level")) levels_apart m ((led_assert 0).begins d m x spelled.0 spelled.1)

  pub exact_file : (room : ℕ) → Exact (λ d. file d) anything 0 room room room end (read_file end room)
  unfolding file read_file
  exact_file room =
      exact_then (λ d. level_line) asserts_of (is_word_of (codes "level")) anything 0 room room room room end (read_level_line end) (λ l ts. and_read (read_asserts end room ts) (λ asserts. read_done (a_file l asserts))) (omega arith)
      (exact_level_line room) (exact_asserts_of room) asserts_follow
