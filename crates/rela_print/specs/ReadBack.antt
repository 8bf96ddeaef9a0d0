-- Trees that texts spell, and texts that are read as a tree.
use Rattle.std.specs.Prelude.{◌≡◌, ℕ, List}
use Rattle.rela_lex.specs.declared.token.Token.{Token}
use Rattle.rela_lex.specs.Spells as lex
use Rattle.rela_spec.specs.Grammar.{Spells}
use Rattle.rela_print.specs.SameTree.{SameButOffsets}
use Rattle.rela_spec.specs.declared.tree.SpecFile.{SpecFile}

-- some text is cut into tokens that spell the tree
pub record IsOfText (file : SpecFile) : Type 0 where
  pub text : List ℕ
  pub tokens : List Token
  pub cut : lex.Spells text tokens
  pub spelled : Spells tokens file

-- the text is cut into tokens that spell the tree, but for its offsets, and no other
pub record ReadsBack (text : List ℕ) (file : SpecFile) : Type 0 where
  pub tokens : List Token
  pub cut : lex.Spells text tokens
  pub again : SpecFile
  pub spelled : Spells tokens again
  pub same : SameButOffsets again file
  pub only : (other : SpecFile) → Spells tokens other → other ≡ again
