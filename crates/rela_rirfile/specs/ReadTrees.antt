-- Readings of sets, relations and what is asserted. A reading with a number may open so many brackets one within the
-- other.
use Rattle.std.specs.Prelude.{ℕ, zero, suc, Err, List, codes}
use Rattle.rela_lex.specs.declared.error.SpecError.TheVariants.{Memory}
use Rattle.rela_spec.specs.ReadWords.{is_word_of, read_mark, read_word}
use Rattle.rela_spec.specs.Readings.{Reading, choose, read_done, read_open, ◌>>=◌, ◌>>◌}
use Rattle.rela_rirfile.specs.ReadWords.{read_member}
use Rattle.rela_rirfile.specs.declared.written.AssertExpr.{AssertExpr}
use Rattle.rela_rirfile.specs.declared.written.AssertExpr.TheVariants as assertion
use Rattle.rela_rirfile.specs.declared.written.RelExpr.{RelExpr}
use Rattle.rela_rirfile.specs.declared.written.RelExpr.TheVariants as rel
use Rattle.rela_rirfile.specs.declared.written.PathExpr.{PathExpr}
use Rattle.rela_rirfile.specs.declared.written.PathExpr.TheVariants as set

-- one part in brackets
abbrev pub read_one : {A : Type 0} → ℕ → ℕ → Reading A → Reading A
read_one end room part = read_open end 40 room >> (part >>= λ v. read_mark end 41 >> read_done v)

-- two parts in brackets
abbrev pub read_two : {A B : Type 0} → ℕ → ℕ → Reading A → Reading B → Reading (A × B)
read_two end room first second = read_open end 40 room >> (first >>= λ a. read_mark end 44 >>
    (second >>= λ b. read_mark end 41 >> read_done (a, b)))

-- where the word is next, it and behind it what is made of, else the second
abbrev pub read_call : {A B : Type 0} → ℕ → List ℕ → Reading A → (A → B) → Reading B → Reading B
read_call end bytes parts make others = choose (is_word_of bytes)
    (read_word end bytes >> (parts >>= λ v. read_done (make v))) others

unfoldable pub read_plain : ℕ → ℕ → Reading PathExpr
read_plain end room =
    choose (is_word_of (codes "none")) (read_word end (codes "none") >> read_done set.None)
    (choose (is_word_of (codes "eps")) (read_word end (codes "eps") >> read_done set.Empty)
    (choose (is_word_of (codes "pre")) (read_word end (codes "pre") >> read_done set.Pre)
    (choose (is_word_of (codes "post")) (read_word end (codes "post") >> read_done set.Post)
    (choose (is_word_of (codes "all")) (read_word end (codes "all") >> read_done set.All)
    (read_member end room >>= λ m. read_done (set.Member m))))))

abbrev pub read_set_over : ℕ → ℕ → Reading PathExpr → Reading RelExpr → Reading PathExpr
read_set_over end room s r =
    read_call end (codes "union") (read_two end room s s) (λ p. set.Union p.0 p.1)
    (read_call end (codes "concat") (read_two end room s s) (λ p. set.Concat p.0 p.1)
    (read_call end (codes "meet") (read_two end room s s) (λ p. set.Meet p.0 p.1)
    (read_call end (codes "star") (read_one end room s) (λ v. set.Star v)
    (read_call end (codes "complement") (read_one end room s) (λ v. set.Complement v)
    (read_call end (codes "image") (read_two end room s r) (λ p. set.Image p.0 p.1)
    (read_plain end room))))))

abbrev pub read_rel_over : ℕ → ℕ → Reading PathExpr → Reading RelExpr → Reading RelExpr
read_rel_over end room s r =
    read_call end (codes "identity") (read_one end room s) (λ v. rel.Identity v)
    (read_call end (codes "product") (read_two end room s s) (λ p. rel.Product p.0 p.1)
    (read_call end (codes "star") (read_one end room r) (λ v. rel.Star v)
    (read_call end (codes "union") (read_two end room r r) (λ p. rel.Union p.0 p.1)
    (read_call end (codes "concat") (read_two end room r r) (λ p. rel.Concat p.0 p.1)
    (read_word end (codes "compose") >> (read_two end room r r >>= λ p.
    read_done (rel.Compose p.0 p.1)))))))

-- what is read in brackets, of which so many may be opened
unfoldable mutual
  pub set_inside : ℕ → ℕ → Reading PathExpr
  set_inside end zero = λ _. Err Memory
  set_inside end (suc room) =
      read_set_over end room (set_inside end room) (rel_inside end room)

  pub rel_inside : ℕ → ℕ → Reading RelExpr
  rel_inside end zero = λ _. Err Memory
  rel_inside end (suc room) =
      read_rel_over end room (set_inside end room) (rel_inside end room)

unfoldable pub read_one_set : ℕ → ℕ → Reading PathExpr
read_one_set end room = read_one end room (set_inside end room)

unfoldable pub read_two_sets : ℕ → ℕ → Reading (PathExpr × PathExpr)
read_two_sets end room = read_two end room (set_inside end room) (set_inside end room)

unfoldable pub read_set_and_rel : ℕ → ℕ → Reading (PathExpr × RelExpr)
read_set_and_rel end room = read_two end room (set_inside end room) (rel_inside end room)

unfoldable pub read_one_rel : ℕ → ℕ → Reading RelExpr
read_one_rel end room = read_one end room (rel_inside end room)

unfoldable pub read_two_rels : ℕ → ℕ → Reading (RelExpr × RelExpr)
read_two_rels end room = read_two end room (rel_inside end room) (rel_inside end room)

unfoldable pub read_set : ℕ → ℕ → Reading PathExpr
read_set end room =
    read_call end (codes "union") (read_two_sets end room) (λ p. set.Union p.0 p.1)
    (read_call end (codes "concat") (read_two_sets end room) (λ p. set.Concat p.0 p.1)
    (read_call end (codes "meet") (read_two_sets end room) (λ p. set.Meet p.0 p.1)
    (read_call end (codes "star") (read_one_set end room) (λ v. set.Star v)
    (read_call end (codes "complement") (read_one_set end room) (λ v. set.Complement v)
    (read_call end (codes "image") (read_set_and_rel end room) (λ p. set.Image p.0 p.1)
    (read_plain end room))))))

unfoldable pub read_rel : ℕ → ℕ → Reading RelExpr
read_rel end room =
    read_call end (codes "identity") (read_one_set end room) (λ v. rel.Identity v)
    (read_call end (codes "product") (read_two_sets end room) (λ p. rel.Product p.0 p.1)
    (read_call end (codes "star") (read_one_rel end room) (λ v. rel.Star v)
    (read_call end (codes "union") (read_two_rels end room) (λ p. rel.Union p.0 p.1)
    (read_call end (codes "concat") (read_two_rels end room) (λ p. rel.Concat p.0 p.1)
    (read_word end (codes "compose") >> (read_two_rels end room >>= λ p.
    read_done (rel.Compose p.0 p.1)))))))

abbrev pub read_tree_over : ℕ → ℕ → Reading AssertExpr → Reading PathExpr → Reading AssertExpr
read_tree_over end room a s =
    read_call end (codes "equal") (read_two end room s s) (λ p. assertion.Equal p.0 p.1)
    (read_call end (codes "included") (read_two end room s s) (λ p. assertion.Included p.0 p.1)
    (read_call end (codes "and") (read_two end room a a) (λ p. assertion.And p.0 p.1)
    (read_call end (codes "or") (read_two end room a a) (λ p. assertion.Or p.0 p.1)
    (read_word end (codes "not") >> (read_one end room a >>= λ v.
    read_done (assertion.Not v))))))

unfoldable pub tree_inside : ℕ → ℕ → Reading AssertExpr
tree_inside end zero = λ _. Err Memory
tree_inside end (suc room) = read_tree_over end room (tree_inside end room) (set_inside end room)

unfoldable pub read_one_tree : ℕ → ℕ → Reading AssertExpr
read_one_tree end room = read_one end room (tree_inside end room)

unfoldable pub read_two_trees : ℕ → ℕ → Reading (AssertExpr × AssertExpr)
read_two_trees end room = read_two end room (tree_inside end room) (tree_inside end room)

unfoldable pub read_tree : ℕ → ℕ → Reading AssertExpr
read_tree end room =
    read_call end (codes "equal") (read_two_sets end room) (λ p. assertion.Equal p.0 p.1)
    (read_call end (codes "included") (read_two_sets end room) (λ p. assertion.Included p.0 p.1)
    (read_call end (codes "and") (read_two_trees end room) (λ p. assertion.And p.0 p.1)
    (read_call end (codes "or") (read_two_trees end room) (λ p. assertion.Or p.0 p.1)
    (read_word end (codes "not") >> (read_one_tree end room >>= λ v.
    read_done (assertion.Not v))))))
