-- What a text of tokens gives, that of a specification or of assertions: its tree, or its first refusal.
use Rattle.std.specs.Prelude.{◌≡◌, ◌≢◌, ℕ, ◌⊎◌, List, length, Result, Ok, Err}
use Rattle.rela_lex.specs.Spells as lex
use Rattle.rela_lex.specs.declared.error.SpecError.{SpecError}
use Rattle.rela_lex.specs.declared.error.SpecError.TheVariants.{BadToken, Memory}
use Rattle.rela_lex.specs.declared.token.Token.{Token}
use Rattle.rela_spec.specs.Grammar as grammar
use Rattle.rela_spec.specs.declared.tree.SpecFile.{SpecFile}
use Rattle.rela_rirfile.specs.Grammar as assertions
use Rattle.rela_rirfile.specs.declared.written.AssertFile.{AssertFile}
use Rattle.rela_inputs.specs.declared.asking.Written as declared
use Rattle.rela_inputs.specs.declared.refusal.Input.{Input}
use Rattle.rela_inputs.specs.declared.refusal.Input.TheVariants.{Assertions, Spec}
use Rattle.rela_inputs.specs.declared.refusal.Reason.TheVariants.{Specification}
use Rattle.rela_inputs.specs.declared.refusal.Refusal.{Refusal}

abbrev pub refused_text : Input → SpecError → Refusal
refused_text input e = record { input = input; reason = Specification e }

-- the refusal of the input is that of this fault, which isn't want of memory
pub record IsFaultOf (input : Input) (Fault : SpecError → Type 0) (refusal : Refusal) : Type 0 where
  pub error : SpecError
  pub fault : Fault error
  pub real : error ≢ Memory
  pub is : refusal ≡ refused_text input error

-- A grammar: which trees tokens spell, and which faults they have in a text of this length.
module _ {Tree : Type 0} (input : Input) (Spells : List Token → Tree → Type 0)
    (IsFault : List Token → ℕ → SpecError → Type 0) where
  -- the tree that tokens spell, or their fault
  abbrev pub IsParsed : List Token → ℕ → Result Tree Refusal → Type 0
  IsParsed tokens end (Ok tree) = Spells tokens tree
  IsParsed tokens end (Err refusal) = IsFaultOf input (IsFault tokens end) refusal

  -- what a text gives: what its tokens do, or the refusal of the place where no token begins
  unfoldable pub ReadsText : List ℕ → Result Tree Refusal → Type 0
  ReadsText bytes r =
      ((tokens : List Token) × lex.Spells bytes tokens × IsParsed tokens (length bytes) r)
      ⊎ ((at : ℕ) × lex.IsBadToken bytes at × (r ≡ Err (refused_text input (BadToken at))))

-- the text of a specification
abbrev pub ReadsTree : List ℕ → Result SpecFile Refusal → Type 0
ReadsTree = ReadsText Spec grammar.Spells grammar.IsFault

-- a specification as it is written: its tokens, and the tree that they spell
pub record Written : Type 0 where
  pub tokens : List Token
  pub file : SpecFile

abbrev pub SpellsWritten : List Token → Written → Type 0
SpellsWritten tokens written = (written.tokens ≡ tokens) × grammar.Spells tokens written.file

abbrev pub ReadsWritten : List ℕ → Result Written Refusal → Type 0
ReadsWritten = ReadsText Spec SpellsWritten grammar.IsFault

-- what was read, as data
abbrev pub written_by : declared.Written → Written
written_by written = record { tokens = written.tokens.items; file = written.file }

-- the text of an assertion file
abbrev pub ReadsAssertions : List ℕ → Result AssertFile Refusal → Type 0
ReadsAssertions = ReadsText Assertions assertions.Spells assertions.IsFault
