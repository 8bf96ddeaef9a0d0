-- What words ask for, by their first one and the parts of the others.
use Rattle.std.proofs.Common.{◌≡◌, ◌≢◌, false, List, [], ◌∷◌, Result, refl, sym, ap, subst, ◌∙◌}
use Rattle.std.specs.Prelude.{IfErr, IfOk, codes}
use Rattle.std.proofs.lemmas.Result.{IfErr-weaker, IfOk-weaker}
use Rattle.rela_words.specs.Words.{Ask, AskJust, AskNothing, BeginByName, Command, Check, Fmt, Fib, Zone, Rir, Certify, Audit, Demo, Fit, Give, HasNumbers, Parts, row_of}
use Rattle.rela_words.specs.Commands.{command_of, name_of}
use Rattle.rela_words.specs.declared.verb.Verb.{Verb}
use Rattle.rela_words.specs.declared.verb.Verb.TheVariants as verbs
use Rattle.rela_words.specs.Parts.{FitJust, FitNothing, GiveJust, GiveNothing}
use Rattle.rela_words.specs.declared.command.Command as declared
use Rattle.rela_words.specs.declared.errors.WordsError.{WordsError}
use Rattle.rela_words.specs.declared.errors.WordsError.TheVariants.{Bad}
use Rattle.rela_words.proofs.WordKinds.{Word}

head_is : (w v : Word) (ws vs : List Word) → w ∷ ws ≡ v ∷ vs → w ≡ v
head_is w v ws vs e = cc

tail_is : (w v : Word) (ws vs : List Word) → w ∷ ws ≡ v ∷ vs → ws ≡ vs
tail_is w v ws vs e = cc

-- no word asks for nothing
pub nothing_asked : AskNothing []
nothing_asked command asked = absurd (let bad : [] ≡ (row_of command).name ∷ asked.rest = asked.are_words in cc)

module _ (words : List Word) (name : Word) (rest : List Word) (are : words ≡ name ∷ rest) where
  -- the rest gives no parts
  pub nothing_given : GiveNothing rest → AskNothing words
  nothing_given nothing command asked =
      nothing asked.parts (subst (λ (l : List Word). Give l asked.parts) (sym (tail_is name (row_of command).name rest asked.rest (sym are ∙ asked.are_words))) asked.gives)

  module _ (parts : Parts) (gives : GiveJust rest parts) where
    asked_fit : (command : Command) → Ask words command → ((row_of command).name ≡ name) × Fit parts command
    asked_fit command asked =
        let whole : name ∷ rest ≡ (row_of command).name ∷ asked.rest = sym are ∙ asked.are_words in
        let same : asked.parts ≡ parts =
        (gives asked.parts).0 (subst (λ (l : List Word). Give l asked.parts) (sym (tail_is name (row_of command).name rest asked.rest whole)) asked.gives) in
        (sym (head_is name (row_of command).name rest asked.rest whole), subst (λ (p : Parts). Fit p command) same asked.fits)

    fit_asked : (command : Command) → (row_of command).name ≡ name → Fit parts command → Ask words command
    fit_asked command named fits = record {
      rest = rest;
      parts = parts;
      are_words = are ∙ ap (λ w. w ∷ rest) (sym named);
      gives = (gives parts).1 refl;
      fits = fits;
    }

    pub just_asked : (made : Command) → FitJust name parts made → AskJust words made
    just_asked made fits command = (
      λ asked. (fits command).0 (asked_fit command asked),
      λ same. (let both = (fits command).1 same in fit_asked command both.0 both.1),
    )

    pub nothing_fits : FitNothing name parts → AskNothing words
    nothing_fits nothing command asked = (let both = asked_fit command asked in nothing command both.0 both.1)

    -- the answers of a command's reading are those of the words
    pub ok_asked : (text : Word) → name ≡ text → (r : Result declared.Command WordsError) → IfOk r (λ c. FitJust text parts (command_of c))
        → IfOk r (λ c. AskJust words (command_of c))
    ok_asked text is r ok =
        IfOk-weaker r _ _ (λ c fits. just_asked (command_of c) (subst (λ (t : Word). FitJust t parts (command_of c)) (sym is) fits)) ok

    pub err_asked : (text : Word) → name ≡ text → (r : Result declared.Command WordsError) → IfErr r (λ e. e ≡ Bad → FitNothing text parts)
        → IfErr r (λ e. e ≡ Bad → AskNothing words)
    err_asked text is r err =
        IfErr-weaker r _ _ (λ e nothing bad. nothing_fits (subst (λ (t : Word). FitNothing t parts) (sym is) (nothing bad))) err

    pub numbers_asked : (text : Word) → name ≡ text → (r : Result declared.Command WordsError) → IfOk r (λ c. FitJust text parts (command_of c))
        → IfOk r (λ c. HasNumbers (command_of c))
    numbers_asked text is r ok = IfOk-weaker r _ _ (λ c fits. ((fits (command_of c)).1 refl).1.numbers) ok

-- a name of none of them
pub unnamed : (name : Word) (parts : Parts) → name ≢ codes "check" → name ≢ codes "fmt" → name ≢ codes "fib" → name ≢ codes "zone" → name ≢ codes "rir"
    → name ≢ codes "certify" → name ≢ codes "audit" → name ≢ codes "demo" → FitNothing name parts
unnamed name parts check fmt fib zone rir certify audit demo (Check before after locations spec states blame) e fit = check (sym e)
unnamed name parts check fmt fib zone rir certify audit demo (Fmt spec) e fit = fmt (sym e)
unnamed name parts check fmt fib zone rir certify audit demo (Fib tables other locations) e fit = fib (sym e)
unnamed name parts check fmt fib zone rir certify audit demo (Zone locations spec named states) e fit = zone (sym e)
unnamed name parts check fmt fib zone rir certify audit demo (Rir before after locations assertions states) e fit = rir (sym e)
unnamed name parts check fmt fib zone rir certify audit demo (Certify before after locations spec states) e fit = certify (sym e)
unnamed name parts check fmt fib zone rir certify audit demo (Audit before after locations spec certificate) e fit = audit (sym e)
unnamed name parts check fmt fib zone rir certify audit demo (Demo layers) e fit = demo (sym e)

-- the text of the first word is the name of the verb that was found
pub named_by : {name text : Word} {found verb : Verb} → text ≡ name → text ≡ name_of found → found ≡ verb → name ≡ name_of verb
named_by value named is = sym value ∙ named ∙ ap name_of is

-- each name is that of a command
a_command : (verb : Verb) → (command : Command) × ((row_of command).name ≡ name_of verb)
a_command verbs.Check = (Check [] [] [] [] 0 false, refl)
a_command verbs.Fmt = (Fmt [], refl)
a_command verbs.Fib = (Fib [] [] [], refl)
a_command verbs.Zone = (Zone [] [] [] 0, refl)
a_command verbs.Rir = (Rir [] [] [] [] 0, refl)
a_command verbs.Certify = (Certify [] [] [] [] 0, refl)
a_command verbs.Audit = (Audit [] [] [] [] [], refl)
a_command verbs.Demo = (Demo 0, refl)

pub begin_by : (words : List Word) (name : Word) (rest : List Word) (verb : Verb) → words ≡ name ∷ rest → name ≡ name_of verb → BeginByName words
begin_by words name rest verb are named =
    let made = a_command verb in
    record {
      command = made.0;
      rest = rest;
      are_words = are ∙ ap (λ (w : Word). w ∷ rest) (named ∙ sym made.1);
    }

-- each command has a name
a_verb : (command : Command) → (verb : Verb) × ((row_of command).name ≡ name_of verb)
a_verb (Check before after locations spec states blame) = (verbs.Check, refl)
a_verb (Fmt spec) = (verbs.Fmt, refl)
a_verb (Fib tables other locations) = (verbs.Fib, refl)
a_verb (Zone locations spec named states) = (verbs.Zone, refl)
a_verb (Rir before after locations assertions states) = (verbs.Rir, refl)
a_verb (Certify before after locations spec states) = (verbs.Certify, refl)
a_verb (Audit before after locations spec certificate) = (verbs.Audit, refl)
a_verb (Demo layers) = (verbs.Demo, refl)

pub unnamed_asked : (words : List Word) (name : Word) (rest : List Word) → words ≡ name ∷ rest → ((verb : Verb) → name ≢ name_of verb) → AskNothing words
unnamed_asked words name rest are other command asked =
    let verb = a_verb command in
    other verb.0 (head_is name (row_of command).name rest asked.rest (sym are ∙ asked.are_words) ∙ verb.1)
