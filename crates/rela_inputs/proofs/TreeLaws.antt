-- What the text of a specification or of assertions gives, by what its tokens and its tree do.
use Rattle.std.proofs.Common.{◌≡◌, ◌≢◌, ◌∙◌, ℕ, ◌⊎◌, inl, inr, true, List, length, map, Result, Ok, Err, refl, sym, ap, subst}
use Rattle.std.specs.List.{All}
use Rattle.rela_lex.specs.Spells as lex
use Rattle.rela_lex.specs.declared.error.SpecError.{SpecError}
use Rattle.rela_lex.specs.declared.error.SpecError.TheVariants as spec
use Rattle.rela_lex.specs.declared.token.Token.{Token}
use Rattle.rela_locations.specs.Network.{Network}
use Rattle.rela_spec.specs.Grammar as grammar
use Rattle.rela_spec.specs.declared.tree.SpecFile.{SpecFile}
use Rattle.rela_expand.specs.Expand.{Expanded, expanded, outcome_of}
use Rattle.rela_translate.specs.Checked.{Checked as Check}
use Rattle.rela_inputs.specs.Given.{Equals, Agrees, IsRead}
use Rattle.rela_inputs.specs.Halts.{spec_halt}
use Rattle.rela_rirfile.specs.Grammar as assertions
use Rattle.rela_inputs.specs.Specifications.{refused_text, IsParsed, ReadsText, ReadsTree, Written}
use Rattle.rela_inputs.specs.Specified.{Specified, IsSpecified, AsksFor, ReadsChecks, SameSpecified}
use Rattle.rela_inputs.specs.declared.reading.Halt.{Halt}
use Rattle.rela_inputs.specs.declared.reading.Halt.TheVariants.{Refused}
use Rattle.rela_inputs.specs.declared.refusal.Input.{Input}
use Rattle.rela_inputs.specs.declared.refusal.Input.TheVariants.{Spec}
use Rattle.rela_inputs.specs.declared.refusal.Refusal.{Refusal}
use Rattle.rela_inputs.proofs.GivenLaws.{continued_equal, stopped, value_read, refused_read, memory_read}

-- an error is want of memory, or a refusal
abbrev Halts : Input → SpecError → Type 0
Halts input e = (e ≡ spec.Memory) ⊎ ((e ≢ spec.Memory) × (spec_halt input e ≡ Refused (refused_text input e)))

spec_halts : (input : Input) (e : SpecError) → Halts input e
spec_halts input (spec.BadToken at) = inr (λ m. cc, refl)
spec_halts input (spec.Syntax at) = inr (λ m. cc, refl)
spec_halts input (spec.UnknownName at) = inr (λ m. cc, refl)
spec_halts input (spec.RepeatedName at) = inr (λ m. cc, refl)
spec_halts input (spec.TooDeep at) = inr (λ m. cc, refl)
spec_halts input (spec.TooLarge at) = inr (λ m. cc, refl)
spec_halts input (spec.BadNumber at) = inr (λ m. cc, refl)
spec_halts input (spec.FinerLevel at) = inr (λ m. cc, refl)
spec_halts input (spec.UnknownLocation at) = inr (λ m. cc, refl)
spec_halts input spec.Memory = inl refl

-- what is refused of a text
pub text_refused : {A : Type 0} (Same : A → A → Type 0) (Steps : Result A Refusal → Type 0) (input : Input) (e : SpecError) (halt : Halt)
    → halt ≡ spec_halt input e → (e ≢ spec.Memory → Steps (Err (refused_text input e)))
    → (e ≢ spec.Memory → (x : Result A Refusal) → Steps x → x ≡ Err (refused_text input e)) → IsRead Same Steps (Err halt)
text_refused {A} Same Steps input e halt is steps alone = by (spec_halts input e)
  where
    by : Halts input e → IsRead Same Steps (Err halt)
    by (inl same) = memory_read Same Steps halt (is ∙ ap (spec_halt input) same)
    by (inr real) = refused_read Same Steps halt (refused_text input e) (is ∙ real.1) refl (steps real.0) (alone real.0)

-- what is said of a text without tokens
pub record AreNoTokens (bytes : List ℕ) (e : SpecError) : Type 0 where
  pub fault : lex.IsFault bytes e
  pub spelled : (tokens : List Token) → lex.Spells bytes tokens → e ≡ spec.Memory
  pub bad : (at : ℕ) → lex.IsBadToken bytes at → (e ≡ spec.BadToken at) ⊎ (e ≡ spec.Memory)

-- what is said of a text with these tokens
pub record AreTokens (bytes : List ℕ) (tokens : List Token) : Type 0 where
  pub spells : lex.Spells bytes tokens
  pub alone : (others : List Token) → lex.Spells bytes others → tokens ≡ others
  pub good : (at : ℕ) → ¬ lex.IsBadToken bytes at

other_than : {X : Type 0} (P : Type 0) → P ⊎ X → ¬ X → P
other_than P (inl p) absent = p
other_than P (inr x) absent = absurd (absent x)

-- ---- a text of some grammar

module _ {Tree : Type 0} (input : Input) (Spells : List Token → Tree → Type 0) (IsFault : List Token → ℕ → SpecError → Type 0) where
  abbrev Reads : List ℕ → Result Tree Refusal → Type 0
  Reads = ReadsText input Spells IsFault

  abbrev Parsed : List Token → ℕ → Result Tree Refusal → Type 0
  Parsed = IsParsed input Spells IsFault

  abbrev refusing : SpecError → Result Tree Refusal
  refusing e = Err (refused_text input e)

  bad_token : (bytes : List ℕ) (e : SpecError) → lex.IsFault bytes e → e ≢ spec.Memory → (at : ℕ) × lex.IsBadToken bytes at × (refusing e ≡ Err (refused_text input (spec.BadToken at)))
  bad_token bytes (spec.BadToken at) fault real = (at, fault, refl)
  bad_token bytes spec.Memory fault real = absurd (real refl)
  bad_token bytes (spec.Syntax at) fault real = absurd fault
  bad_token bytes (spec.UnknownName at) fault real = absurd fault
  bad_token bytes (spec.RepeatedName at) fault real = absurd fault
  bad_token bytes (spec.TooDeep at) fault real = absurd fault
  bad_token bytes (spec.TooLarge at) fault real = absurd fault
  bad_token bytes (spec.BadNumber at) fault real = absurd fault
  bad_token bytes (spec.FinerLevel at) fault real = absurd fault
  bad_token bytes (spec.UnknownLocation at) fault real = absurd fault

  no_tokens_alone : (bytes : List ℕ) (e : SpecError) → AreNoTokens bytes e → e ≢ spec.Memory → (x : Result Tree Refusal) → Reads bytes x → x ≡ refusing e
  unfolding ReadsText
  no_tokens_alone bytes e absent real x (inl (tokens, spells, parsed)) = absurd (real (absent.spelled tokens spells))
  no_tokens_alone bytes e absent real x (inr (at, bad, is)) =
      let same : e ≡ spec.BadToken at = other_than (e ≡ spec.BadToken at) (absent.bad at bad) real in
      is ∙ sym (ap refusing same)

  no_tokens_told : (bytes : List ℕ) (e : SpecError) → AreNoTokens bytes e → e ≢ spec.Memory → Reads bytes (refusing e)
  unfolding ReadsText
  no_tokens_told bytes e absent real = inr (bad_token bytes e absent.fault real)

  -- a text without tokens
  pub no_tokens : (bytes : List ℕ) (e : SpecError) (halt : Halt) → halt ≡ spec_halt input e → AreNoTokens bytes e → IsRead Equals (Reads bytes) (Err halt)
  no_tokens bytes e halt is absent =
      text_refused Equals (Reads bytes) input e halt is (no_tokens_told bytes e absent) (no_tokens_alone bytes e absent)

  -- the parsing of other tokens of the text is that of these
  module _ (bytes : List ℕ) (tokens : List Token) (are : AreTokens bytes tokens) where
    of_these : (x : Result Tree Refusal) → Reads bytes x → Parsed tokens (length bytes) x
    unfolding ReadsText
    of_these x (inl (others, spells, parsed)) = subst (λ (ts : List Token). Parsed ts (length bytes) x) (sym (are.alone others spells)) parsed
    of_these x (inr (at, bad, is)) = absurd (are.good at bad)

    told : (x : Result Tree Refusal) → Parsed tokens (length bytes) x → Reads bytes x
    unfolding ReadsText
    told x parsed = inl (tokens, are.spells, parsed)

    -- the tokens spell this tree alone, and have no fault
    record IsTree (end : ℕ) (tree : Tree) : Type 0 where
      pub spells : Spells tokens tree
      pub alone : (other : Tree) → Spells tokens other → tree ≡ other
      pub sound : (e : SpecError) → e ≢ spec.Memory → ¬ IsFault tokens end e

    tree_alone : (tree : Tree) → IsTree (length bytes) tree → (x : Result Tree Refusal) → Parsed tokens (length bytes) x → x ≡ Ok tree
    tree_alone tree is (Ok other) parsed = ap (λ (t : Tree). Ok t) (sym (is.alone other parsed))
    tree_alone tree is (Err refusal) parsed = absurd (is.sound parsed.error parsed.real parsed.fault)

    -- the tree of its tokens
    pub tree_read : (end : ℕ) (tree : Tree) → end ≡ length bytes → Spells tokens tree → ((other : Tree) → Spells tokens other → tree ≡ other)
        → ((e : SpecError) → e ≢ spec.Memory → ¬ IsFault tokens end e) → IsRead Equals (Reads bytes) (Ok tree)
    tree_read end tree same spells alone sound =
        let is : IsTree (length bytes) tree = subst (λ (n : ℕ). IsTree n tree) same (record { spells = spells; alone = alone; sound = sound }) in
        value_read tree (Reads bytes) (told (Ok tree) is.spells) (λ x steps. tree_alone tree is x (of_these x steps))

    -- the tokens spell no tree, and have this fault alone
    record IsNoTree (end : ℕ) (e : SpecError) : Type 0 where
      pub fault : IsFault tokens end e
      pub spelled : (tree : Tree) → Spells tokens tree → e ≡ spec.Memory
      pub alone : e ≢ spec.Memory → (other : SpecError) → other ≢ spec.Memory → IsFault tokens end other → e ≡ other

    fault_alone : (e : SpecError) → IsNoTree (length bytes) e → e ≢ spec.Memory → (x : Result Tree Refusal) → Parsed tokens (length bytes) x → x ≡ refusing e
    fault_alone e absent real (Ok tree) parsed = absurd (real (absent.spelled tree parsed))
    fault_alone e absent real (Err refusal) parsed =
        let same : e ≡ parsed.error = absent.alone real parsed.error parsed.real parsed.fault in
        ap (λ (r : Refusal). Err r) parsed.is ∙ sym (ap refusing same)

    -- tokens without a tree
    pub no_tree : (end : ℕ) (e : SpecError) (halt : Halt) → end ≡ length bytes → halt ≡ spec_halt input e → IsFault tokens end e
        → ((tree : Tree) → Spells tokens tree → e ≡ spec.Memory) → (e ≢ spec.Memory → (other : SpecError) → other ≢ spec.Memory → IsFault tokens end other → e ≡ other)
        → IsRead Equals (Reads bytes) (Err halt)
    no_tree end e halt same is fault spelled alone =
        let there : IsNoTree (length bytes) e = subst (λ (n : ℕ). IsNoTree n e) same (record { fault = fault; spelled = spelled; alone = alone }) in
        text_refused Equals (Reads bytes) input e halt is
        (λ real. told (refusing e) (record { error = e; fault = there.fault; real = real; is = refl }))
        (λ real x steps. fault_alone e there real x (of_these x steps))

-- ---- specifications

abbrev written_of : List Token → SpecFile → Written
written_of tokens file = record { tokens = tokens; file = file }

pub written_same : (tokens others : List Token) (file other : SpecFile) → tokens ≡ others → file ≡ other → written_of tokens file ≡ written_of others other
written_same tokens others file other same is = ap (λ (ts : List Token). written_of ts file) same ∙ ap (λ (f : SpecFile). written_of others f) is

module _ (tokens : List Token) (end : ℕ) where
  pub no_fault : ((at : ℕ) → ¬ grammar.IsSyntax tokens end at) → ((at : ℕ) → ¬ grammar.IsTooDeep tokens at) → ((at : ℕ) → ¬ grammar.IsBadNumber tokens at)
      → (e : SpecError) → e ≢ spec.Memory → ¬ grammar.IsFault tokens end e
  no_fault syntax' deep number (spec.BadToken at) real fault = fault
  no_fault syntax' deep number (spec.Syntax at) real fault = syntax' at fault
  no_fault syntax' deep number (spec.UnknownName at) real fault = fault
  no_fault syntax' deep number (spec.RepeatedName at) real fault = fault
  no_fault syntax' deep number (spec.TooDeep at) real fault = deep at fault
  no_fault syntax' deep number (spec.TooLarge at) real fault = fault
  no_fault syntax' deep number (spec.BadNumber at) real fault = number at fault
  no_fault syntax' deep number (spec.FinerLevel at) real fault = fault
  no_fault syntax' deep number (spec.UnknownLocation at) real fault = fault
  no_fault syntax' deep number spec.Memory real fault = real refl

  pub one_fault : (e : SpecError) → ((at : ℕ) → grammar.IsSyntax tokens end at → (e ≡ spec.Syntax at) ⊎ (e ≡ spec.Memory))
      → ((at : ℕ) → grammar.IsTooDeep tokens at → (e ≡ spec.TooDeep at) ⊎ (e ≡ spec.Memory))
      → ((at : ℕ) → grammar.IsBadNumber tokens at → (e ≡ spec.BadNumber at) ⊎ (e ≡ spec.Memory))
      → e ≢ spec.Memory → (other : SpecError) → other ≢ spec.Memory → grammar.IsFault tokens end other → e ≡ other
  one_fault e syntax' deep number real (spec.BadToken at) is fault = absurd fault
  one_fault e syntax' deep number real (spec.Syntax at) is fault = other_than (e ≡ spec.Syntax at) (syntax' at fault) real
  one_fault e syntax' deep number real (spec.UnknownName at) is fault = absurd fault
  one_fault e syntax' deep number real (spec.RepeatedName at) is fault = absurd fault
  one_fault e syntax' deep number real (spec.TooDeep at) is fault = other_than (e ≡ spec.TooDeep at) (deep at fault) real
  one_fault e syntax' deep number real (spec.TooLarge at) is fault = absurd fault
  one_fault e syntax' deep number real (spec.BadNumber at) is fault = other_than (e ≡ spec.BadNumber at) (number at fault) real
  one_fault e syntax' deep number real (spec.FinerLevel at) is fault = absurd fault
  one_fault e syntax' deep number real (spec.UnknownLocation at) is fault = absurd fault
  one_fault e syntax' deep number real spec.Memory is fault = absurd (is refl)

  -- ---- assertion files

  pub no_assertion_fault : ((at : ℕ) → ¬ assertions.IsSyntax tokens end at) → ((at : ℕ) → ¬ assertions.IsTooDeep tokens at)
      → (e : SpecError) → e ≢ spec.Memory → ¬ assertions.IsFault tokens end e
  no_assertion_fault syntax' deep (spec.BadToken at) real fault = fault
  no_assertion_fault syntax' deep (spec.Syntax at) real fault = syntax' at fault
  no_assertion_fault syntax' deep (spec.UnknownName at) real fault = fault
  no_assertion_fault syntax' deep (spec.RepeatedName at) real fault = fault
  no_assertion_fault syntax' deep (spec.TooDeep at) real fault = deep at fault
  no_assertion_fault syntax' deep (spec.TooLarge at) real fault = fault
  no_assertion_fault syntax' deep (spec.BadNumber at) real fault = fault
  no_assertion_fault syntax' deep (spec.FinerLevel at) real fault = fault
  no_assertion_fault syntax' deep (spec.UnknownLocation at) real fault = fault
  no_assertion_fault syntax' deep spec.Memory real fault = real refl

  pub one_assertion_fault : (e : SpecError) → ((at : ℕ) → assertions.IsSyntax tokens end at → (e ≡ spec.Syntax at) ⊎ (e ≡ spec.Memory))
      → ((at : ℕ) → assertions.IsTooDeep tokens at → (e ≡ spec.TooDeep at) ⊎ (e ≡ spec.Memory))
      → e ≢ spec.Memory → (other : SpecError) → other ≢ spec.Memory → assertions.IsFault tokens end other → e ≡ other
  one_assertion_fault e syntax' deep real (spec.BadToken at) is fault = absurd fault
  one_assertion_fault e syntax' deep real (spec.Syntax at) is fault = other_than (e ≡ spec.Syntax at) (syntax' at fault) real
  one_assertion_fault e syntax' deep real (spec.UnknownName at) is fault = absurd fault
  one_assertion_fault e syntax' deep real (spec.RepeatedName at) is fault = absurd fault
  one_assertion_fault e syntax' deep real (spec.TooDeep at) is fault = other_than (e ≡ spec.TooDeep at) (deep at fault) real
  one_assertion_fault e syntax' deep real (spec.TooLarge at) is fault = absurd fault
  one_assertion_fault e syntax' deep real (spec.BadNumber at) is fault = absurd fault
  one_assertion_fault e syntax' deep real (spec.FinerLevel at) is fault = absurd fault
  one_assertion_fault e syntax' deep real (spec.UnknownLocation at) is fault = absurd fault
  one_assertion_fault e syntax' deep real spec.Memory is fault = absurd (is refl)

-- ---- the checks

same_list : (a b : List Expanded) → ◌≡◌ {A = Result (List Expanded) SpecError} (Ok a) (Ok b) → a ≡ b
same_list a b e = cc

module _ (network : Network) (tree : SpecFile) where
  pub asks_alone : (specified : Specified) → IsSpecified network tree specified → (x : Result Specified Refusal) → AsksFor network tree x → Agrees true SameSpecified (Ok specified) x
  asks_alone specified is (Ok other) asks = record {
    level = is.level ∙ sym asks.level;
    checks = same_list (map outcome_of specified.checks) (map outcome_of other.checks) (sym is.outcomes ∙ asks.outcomes);
    levels = subst (λ level. All (λ (check : Check). check.level ≡ level) specified.checks) (sym is.level) is.levels;
    others = subst (λ level. All (λ (check : Check). check.level ≡ level) other.checks) (sym asks.level) asks.levels;
  }
  asks_alone specified is (Err refusal) asks =
      let e = sym is.outcomes ∙ asks.fault in
      absurd (cc)

  asks_read : (specified : Specified) → IsSpecified network tree specified → IsRead SameSpecified (AsksFor network tree) (Ok specified)
  asks_read specified is = record {
    given = record { told_by = is; alone = λ t x asks. asks_alone specified is x asks };
    halts = tt;
  }

  refused_alone : (e : SpecError) → expanded network tree ≡ Err e → (x : Result Specified Refusal) → AsksFor network tree x → x ≡ Err (refused_text Spec e)
  refused_alone e is (Ok other) asks =
      let s = sym is ∙ asks.outcomes in
      absurd (cc)
  refused_alone e is (Err refusal) asks =
      let s : ◌≡◌ {A = Result (List Expanded) SpecError} (Err e) (Err asks.error) = sym is ∙ asks.fault in
      let same : e ≡ asks.error = cc in
      ap (λ (r : Refusal). Err r) asks.is ∙ sym (ap (λ (f : SpecError). Err (refused_text Spec f)) same)

  pub asks_refused : (e : SpecError) (halt : Halt) → halt ≡ spec_halt Spec e → (e ≢ spec.Memory → expanded network tree ≡ Err e) → IsRead SameSpecified (AsksFor network tree) (Err halt)
  asks_refused e halt is fault = text_refused SameSpecified (AsksFor network tree) Spec e halt is
      (λ real. record { error = e; fault = fault real; real = real; is = refl }) (λ real. refused_alone e (fault real))

  -- the checks that it expands to
  pub checks_asked : (checks : List Check) → expanded network tree ≡ Ok (map outcome_of checks) → All (λ check. check.level ≡ tree.level) checks
      → IsRead SameSpecified (AsksFor network tree) (Ok (record { level = tree.level; checks = checks }))
  checks_asked checks is levels = asks_read (record { level = tree.level; checks = checks }) (record { outcomes = is; level = refl; levels = levels })

  -- a text of this tree asks for what the tree does
  pub checks_of : (bytes : List ℕ) (r : Result Specified Halt) → IsRead Equals (ReadsTree bytes) (Ok tree) → IsRead SameSpecified (AsksFor network tree) r
      → IsRead SameSpecified (ReadsChecks network bytes) r
  unfolding ReadsChecks
  checks_of bytes r reads asks = record {
    given = continued_equal true true SameSpecified (ReadsTree bytes) (AsksFor network) tree r reads.given asks.given;
    halts = asks.halts;
  }

-- a text without a tree
pub no_tree_no_checks : (network : Network) (bytes : List ℕ) (halt : Halt) → IsRead {A = SpecFile} Equals (ReadsTree bytes) (Err halt) → IsRead SameSpecified (ReadsChecks network bytes) (Err halt)
unfolding ReadsChecks
no_tree_no_checks network bytes halt reads = record {
  given = stopped true true Equals SameSpecified (ReadsTree bytes) (AsksFor network) halt reads.given;
  halts = reads.halts;
}
