-- The grammar of assertion files: which tokens spell which tree, and where a list of tokens is no text of it. A phrase
-- with a number has at most so many brackets nested in it.
use Rattle.std.specs.Prelude.{◌≡◌, ℕ, zero, suc, true, Some, List, [], ◌∷◌, ◌++◌, codes, ⊤}
use Rattle.rela_lex.specs.declared.error.SpecError.{SpecError}
use Rattle.rela_lex.specs.declared.error.SpecError.TheVariants.{Syntax, TooDeep, Memory}
use Rattle.rela_lex.specs.declared.token.Token.{Token}
use Rattle.rela_spec.specs.Grammar.{level_line, opens, room_behind, IsShallow, SameNext, offset}
use Rattle.rela_spec.specs.GrammarWords.{mark, word}
use Rattle.rela_spec.specs.Phrases.{Phrase, done, none, ◌>>=◌, ◌>>◌, ◌or◌, many, bracketed}
use Rattle.rela_rirfile.specs.GrammarWords.{name, a_member}
use Rattle.rela_rirfile.specs.declared.written.Assert.{Assert}
use Rattle.rela_rirfile.specs.declared.written.AssertExpr.{AssertExpr}
use Rattle.rela_rirfile.specs.declared.written.AssertExpr.TheVariants as assertion
use Rattle.rela_rirfile.specs.declared.written.AssertFile.{AssertFile}
use Rattle.rela_rirfile.specs.declared.written.RelExpr.{RelExpr}
use Rattle.rela_rirfile.specs.declared.written.RelExpr.TheVariants as rel
use Rattle.rela_rirfile.specs.declared.written.PathExpr.{PathExpr}
use Rattle.rela_rirfile.specs.declared.written.PathExpr.TheVariants as set

-- one part in brackets
abbrev pub one : {A : Type 0} → ℕ → Phrase A → Phrase A
one room part = bracketed room (mark 40) λ _. part >>= λ v. mark 41 >> done v

-- two parts in brackets
abbrev pub two : {A B : Type 0} → ℕ → Phrase A → Phrase B → Phrase (A × B)
two room first second = bracketed room (mark 40) λ _. first >>= λ a. mark 44 >>
    (second >>= λ b. mark 41 >> done (a, b))

-- a word, and behind it what is made of
abbrev pub call : {A B : Type 0} → List ℕ → Phrase A → (A → B) → Phrase B
call bytes parts make = word bytes >> (parts >>= λ v. done (make v))

-- a set without parts
unfoldable pub plain : ℕ → Phrase PathExpr
plain room =
    (word (codes "none") >> done set.None)
    or (word (codes "eps") >> done set.Empty)
    or (word (codes "pre") >> done set.Pre)
    or (word (codes "post") >> done set.Post)
    or (word (codes "all") >> done set.All)
    or (a_member room >>= λ m. done (set.Member m))

-- a set, where it is given what a set and a relation in its brackets are
abbrev pub set_over : ℕ → Phrase PathExpr → Phrase RelExpr → Phrase PathExpr
set_over room s r =
    call (codes "union") (two room s s) (λ p. set.Union p.0 p.1)
    or call (codes "concat") (two room s s) (λ p. set.Concat p.0 p.1)
    or call (codes "meet") (two room s s) (λ p. set.Meet p.0 p.1)
    or call (codes "star") (one room s) (λ v. set.Star v)
    or call (codes "complement") (one room s) (λ v. set.Complement v)
    or call (codes "image") (two room s r) (λ p. set.Image p.0 p.1)
    or plain room

-- a relation, where it is given what a set and a relation in its brackets are
abbrev pub rel_over : ℕ → Phrase PathExpr → Phrase RelExpr → Phrase RelExpr
rel_over room s r =
    call (codes "identity") (one room s) (λ v. rel.Identity v)
    or call (codes "product") (two room s s) (λ p. rel.Product p.0 p.1)
    or call (codes "star") (one room r) (λ v. rel.Star v)
    or call (codes "union") (two room r r) (λ p. rel.Union p.0 p.1)
    or call (codes "concat") (two room r r) (λ p. rel.Concat p.0 p.1)
    or call (codes "compose") (two room r r) (λ p. rel.Compose p.0 p.1)

-- what stands in brackets, of which so many may be nested
unfoldable mutual
  pub inner_set : ℕ → Phrase PathExpr
  inner_set zero = none
  inner_set (suc room) = set_over room (inner_set room) (inner_rel room)

  pub inner_rel : ℕ → Phrase RelExpr
  inner_rel zero = none
  inner_rel (suc room) = rel_over room (inner_set room) (inner_rel room)

unfoldable pub a_set : ℕ → Phrase PathExpr
a_set room = set_over room (inner_set room) (inner_rel room)

unfoldable pub a_rel : ℕ → Phrase RelExpr
a_rel room = rel_over room (inner_set room) (inner_rel room)

-- what is asserted, where it is given what is in its brackets
abbrev pub tree_over : ℕ → Phrase AssertExpr → Phrase PathExpr → Phrase AssertExpr
tree_over room a s =
    call (codes "equal") (two room s s) (λ p. assertion.Equal p.0 p.1)
    or call (codes "included") (two room s s) (λ p. assertion.Included p.0 p.1)
    or call (codes "and") (two room a a) (λ p. assertion.And p.0 p.1)
    or call (codes "or") (two room a a) (λ p. assertion.Or p.0 p.1)
    or call (codes "not") (one room a) (λ v. assertion.Not v)

unfoldable pub inner_tree : ℕ → Phrase AssertExpr
inner_tree zero = none
inner_tree (suc room) = tree_over room (inner_tree room) (inner_set room)

unfoldable pub a_tree : ℕ → Phrase AssertExpr
a_tree room = tree_over room (inner_tree room) (inner_set room)

unfoldable pub an_assert : ℕ → Phrase Assert
an_assert room = do
  word (codes "assert")
  n ← name
  mark 61
  tree ← a_tree room
  mark 59
  done (record { name = n.name; at = n.at; tree = tree })

unfoldable pub file : ℕ → Phrase AssertFile
file room = do
  level ← level_line
  asserts ← many (an_assert room)
  done (record { level = level; asserts = asserts })

-- the tokens spell the tree, whatever number of brackets is nested
pub record Grammar (tokens : List Token) (tree : AssertFile) : Type 0 where
  pub nested : ℕ
  pub spelled : file nested tokens tree []

-- some text begins with these tokens
pub record BeginsText (tokens : List Token) : Type 0 where
  pub others : List Token
  pub tree : AssertFile
  pub whole : Grammar (tokens ++ others) tree

-- the tokens spell the tree, with at most 100 brackets open anywhere
pub record Spells (tokens : List Token) (tree : AssertFile) : Type 0 where
  pub grammar : Grammar tokens tree
  pub shallow : IsShallow tokens

-- some text begins with the tokens before the offset, none with them and the next token, and none of them is a bracket
-- too many; where no token is next, the tokens are no text
pub record IsSyntax (tokens : List Token) (end at : ℕ) : Type 0 where
  pub before : List Token
  pub rest : List Token
  pub joined : tokens ≡ before ++ rest
  pub here : at ≡ offset end rest
  pub begins : BeginsText before
  pub stuck : (others : List Token) (tree : AssertFile) → SameNext rest others →
      ¬ Grammar (before ++ others) tree
  pub shallow : IsShallow before

-- the first bracket behind which more than 100 are open, where some text begins with the tokens up to and with it
pub record IsTooDeep (tokens : List Token) (at : ℕ) : Type 0 where
  pub before : List Token
  pub bracket : Token
  pub rest : List Token
  pub joined : tokens ≡ before ++ bracket ∷ rest
  pub here : at ≡ bracket.at
  pub opening : opens bracket.kind ≡ true
  pub full : room_behind 100 before ≡ Some 0
  pub begins : BeginsText (before ++ bracket ∷ [])

-- memory ran out, or this is the fault of the tokens
abbrev pub IsFault : List Token → ℕ → SpecError → Type 0
IsFault tokens end (Syntax at) = IsSyntax tokens end at
IsFault tokens end (TooDeep at) = IsTooDeep tokens at
IsFault tokens end Memory = ⊤
IsFault tokens end _ = ⊥
