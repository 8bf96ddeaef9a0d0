-- Tokens have one verdict: the tree that they spell, or their fault.
use Rattle.std.proofs.Common.{◌≡◌, ◌≢◌, ◌⊎◌, ℕ, ◌+◌, true, if◌then◌else◌, Option, None, Some, Result, Ok, Err, List, [], ◌∷◌, ◌++◌, refl, sym, ap, ◌∙◌, subst, inl, inr, arith, append_assoc, append-nil}
use Rattle.std.specs.Prelude.{IsSome}
use Rattle.std.specs.Option.{option_and_then}
use Rattle.std.proofs.lemmas.Bool.{cond-true}
use Rattle.rela_lex.specs.declared.error.SpecError.{SpecError}
use Rattle.rela_lex.specs.declared.error.SpecError.TheVariants.{BadToken, Syntax, UnknownName, RepeatedName, TooDeep, TooLarge, BadNumber, FinerLevel, UnknownLocation, Memory}
use Rattle.rela_lex.specs.declared.token.Token.{Token}
use Rattle.rela_spec.specs.Grammar.{Grammar, BeginsText, Spells, IsSyntax, IsTooDeep, IsBadNumber, IsFault, IsShallow, SameNext, bad_number, closes, file, offset, one_less, opens, room_after, room_behind}
use Rattle.rela_spec.specs.ReadFile.{read_file}
use Rattle.rela_spec.specs.declared.tree.SpecFile.{SpecFile}
use Rattle.rela_spec.proofs.Exact.{Outcome, room_append}
use Rattle.rela_spec.proofs.ExactFile.{anything, exact_file}
use Rattle.rela_spec.proofs.ExactPrefixes.{AreFound}

-- the tokens spell this tree and no other
pub record Parsed (tokens : List Token) (tree : SpecFile) : Type 0 where
  pub grammar : Grammar tokens tree
  pub shallow : IsShallow tokens
  pub only : (other : SpecFile) → Grammar tokens other → other ≡ tree

some_is : (o : Option ℕ) (n : ℕ) → o ≡ Some n → IsSome o
some_is None n e = absurd (let clash = e in cc)
some_is (Some m) n e = refl

found_at : AreFound → (end : ℕ) (tokens : List Token) (found : Result (SpecFile × List Token) SpecError) → read_file end 100 tokens ≡ found → Outcome (λ d. file d) anything 100 100 100 end tokens found
found_at are_found end tokens found e = subst (λ (x : Result (SpecFile × List Token) SpecError). Outcome (λ d. file d) anything 100 100 100 end tokens x) e ((exact_file are_found end 100).outcome tokens)

pub parsed_tree : AreFound → (end : ℕ) (tokens : List Token) (tree : SpecFile) → read_file end 100 tokens ≡ Ok (tree, []) → Parsed tokens tree
parsed_tree are_found end tokens tree e =
    let read = found_at are_found end tokens (Ok (tree, [])) e in
    record {
      grammar = record { nested = 100; spelled = subst (λ (x : List Token). file 100 x tree []) (sym read.joined) (read.spelled 100 (omega arith) []) };
      shallow = subst IsShallow (sym (read.joined ∙ append-nil read.before)) (some_is (room_behind 100 read.before) 100 read.level);
      only = λ other g. (read.only g.nested [] refl other [] (subst (λ (x : List Token). file g.nested x other []) read.joined g.spelled) refl).0;
    }

begins_by : (before others : List Token) (tree : SpecFile) (d : ℕ) → file d (before ++ (others ++ [])) tree [] → BeginsText before
begins_by before others tree d h = record { others = others; tree = tree; whole = record { nested = d; spelled = subst (λ (x : List Token). file d (before ++ x) tree []) (append-nil others) h } }

pub parsed_syntax : AreFound → (end : ℕ) (tokens : List Token) (at : ℕ) → read_file end 100 tokens ≡ Err (Syntax at) → IsSyntax tokens end at
parsed_syntax are_found end tokens at e =
    let stuck = found_at are_found end tokens (Err (Syntax at)) e in
    record {
      before = stuck.before;
      rest = stuck.rest;
      joined = stuck.joined;
      here = stuck.here;
      begins = begins_by stuck.before stuck.others stuck.value 101 (stuck.viable 101 (omega arith) []);
      stuck = λ others tree same g. stuck.never g.nested others same tree [] g.spelled refl;
      shallow = some_is (room_behind 100 stuck.before) stuck.left stuck.level;
    }

pub parsed_deep : AreFound → (end : ℕ) (tokens : List Token) (at : ℕ) → read_file end 100 tokens ≡ Err (TooDeep at) → IsTooDeep tokens at
parsed_deep are_found end tokens at e =
    let deep = found_at are_found end tokens (Err (TooDeep at)) e in
    record {
      before = deep.before;
      bracket = deep.bracket;
      rest = deep.rest;
      joined = deep.joined;
      here = deep.here;
      opening = deep.opening;
      full = deep.level;
      begins =
          begins_by (deep.before ++ deep.bracket ∷ []) deep.others deep.value 101
          (subst (λ (x : List Token). file 101 x deep.value []) (sym (append_assoc deep.before (deep.bracket ∷ []) (deep.others ++ []))) (deep.viable 101 (omega arith) []));
    }

-- what a fault of the reading is
pub parsed_fault : AreFound → (end : ℕ) (tokens : List Token) (e : SpecError) → read_file end 100 tokens ≡ Err e → IsFault tokens end e
parsed_fault are_found end tokens (Syntax at) e = parsed_syntax are_found end tokens at e
parsed_fault are_found end tokens (TooDeep at) e = parsed_deep are_found end tokens at e
parsed_fault are_found end tokens Memory e = tt
parsed_fault are_found end tokens (BadToken at) e = absurd (found_at are_found end tokens (Err (BadToken at)) e)
parsed_fault are_found end tokens (UnknownName at) e = absurd (found_at are_found end tokens (Err (UnknownName at)) e)
parsed_fault are_found end tokens (RepeatedName at) e = absurd (found_at are_found end tokens (Err (RepeatedName at)) e)
parsed_fault are_found end tokens (TooLarge at) e = absurd (found_at are_found end tokens (Err (TooLarge at)) e)
parsed_fault are_found end tokens (BadNumber at) e = absurd (found_at are_found end tokens (Err (BadNumber at)) e)
parsed_fault are_found end tokens (FinerLevel at) e = absurd (found_at are_found end tokens (Err (FinerLevel at)) e)
parsed_fault are_found end tokens (UnknownLocation at) e = absurd (found_at are_found end tokens (Err (UnknownLocation at)) e)

-- two ways to cut one list: at one place, or one of them later
pub data Cuts (first rest second later : List Token) : Type 0 where
  Same : first ≡ second → rest ≡ later → Cuts first rest second later
  Later : (t : Token) (more : List Token) → second ≡ first ++ t ∷ more → rest ≡ t ∷ (more ++ later) → Cuts first rest second later
  Earlier : (t : Token) (more : List Token) → first ≡ second ++ t ∷ more → later ≡ t ∷ (more ++ rest) → Cuts first rest second later

cuts_more : (t : Token) (first rest second later : List Token) → Cuts first rest second later → Cuts (t ∷ first) rest (t ∷ second) later
cuts_more t first rest second later (Same a b) = Same (ap (λ (x : List Token). t ∷ x) a) b
cuts_more t first rest second later (Later u more a b) = Later u more (ap (λ (x : List Token). t ∷ x) a) b
cuts_more t first rest second later (Earlier u more a b) = Earlier u more (ap (λ (x : List Token). t ∷ x) a) b

pub cuts : (first rest second later : List Token) → first ++ rest ≡ second ++ later → Cuts first rest second later
cuts [] rest [] later e = Same refl e
cuts [] rest (t ∷ second) later e = Later t second refl e
cuts (t ∷ first) rest [] later e = Earlier t first refl (sym e)
cuts (t ∷ first) rest (u ∷ second) later e =
    let one : t ≡ u = cc in
    let others : first ++ rest ≡ second ++ later = cc in
    subst (λ (x : Token). Cuts (t ∷ first) rest (x ∷ second) later) one (cuts_more t first rest second later (cuts first rest second later others))

-- no text begins with the tokens up to and with the one at which they are stuck
never_begins : (tokens : List Token) (end at : ℕ) (s : IsSyntax tokens end at) (t : Token) (more later : List Token) → s.rest ≡ t ∷ (more ++ later) → BeginsText (s.before ++ t ∷ more) → ⊥
never_begins tokens end at s t more later e begins =
    let next : SameNext s.rest (t ∷ (more ++ begins.others)) = subst (λ (x : List Token). SameNext x (t ∷ (more ++ begins.others))) (sym e) (more ++ begins.others, refl) in
    s.stuck (t ∷ (more ++ begins.others)) begins.tree next (subst (λ (x : List Token). Grammar x begins.tree) (append_assoc s.before (t ∷ more) begins.others) begins.whole)

never_shallow : (o : Option ℕ) → o ≡ None → IsSome o → ⊥
never_shallow None e some = absurd (let clash = some in cc)
never_shallow (Some n) e some = absurd (let clash = e in cc)

-- behind a bracket too many there is no room
pub too_many : (before : List Token) (bracket : Token) (rest : List Token) → opens bracket.kind ≡ true → room_behind 100 before ≡ Some 0 → room_behind 100 (before ++ bracket ∷ rest) ≡ None
unfolding room_behind
too_many before bracket rest opening full =
    let room : room_after bracket.kind 0 ≡ None = cond-true (opens bracket.kind) (one_less 0) (if closes bracket.kind then Some (0 + 1) else Some 0) opening in
    room_append before (bracket ∷ rest) 100 0 full ∙ ap (option_and_then (λ left. room_behind left rest)) room

pub syntax_once : (tokens : List Token) (end a b : ℕ) → IsSyntax tokens end a → IsSyntax tokens end b → a ≡ b
syntax_once tokens end a b s r =
    elim (cuts s.before s.rest r.before r.rest (sym s.joined ∙ r.joined)) [
      | Same _ e ↦ s.here ∙ ap (offset end) e ∙ sym r.here
      | Later t more e f ↦ absurd (never_begins tokens end a s t more r.rest f (subst BeginsText e r.begins))
      | Earlier t more e f ↦ absurd (never_begins tokens end b r t more s.rest f (subst BeginsText e s.begins))
    ]

pub syntax_not_deep : (tokens : List Token) (end a b : ℕ) → IsSyntax tokens end a → IsTooDeep tokens b → ⊥
syntax_not_deep tokens end a b s d =
    elim (cuts s.before s.rest d.before (d.bracket ∷ d.rest) (sym s.joined ∙ d.joined)) [
      | Same e f ↦ never_begins tokens end a s d.bracket [] d.rest f (subst (λ (x : List Token). BeginsText (x ++ d.bracket ∷ [])) (sym e) d.begins)
      | Later t more e f ↦
          never_begins tokens end a s t (more ++ d.bracket ∷ []) d.rest (f ∙ ap (λ (x : List Token). t ∷ x) (sym (append_assoc more (d.bracket ∷ []) d.rest)))
          (subst BeginsText (append_assoc s.before (t ∷ more) (d.bracket ∷ [])) (subst (λ (x : List Token). BeginsText (x ++ d.bracket ∷ [])) e d.begins))
      | Earlier t more e f ↦
          let same : d.bracket ≡ t = cc in
          never_shallow (room_behind 100 s.before) (ap (room_behind 100) e ∙ ap (λ (x : Token). room_behind 100 (d.before ++ x ∷ more)) (sym same) ∙ too_many d.before d.bracket more d.opening d.full) s.shallow
    ]

full_once : (before : List Token) (bracket : Token) (more : List Token) (other : List Token) → opens bracket.kind ≡ true → room_behind 100 before ≡ Some 0 → other ≡ before ++ bracket ∷ more → room_behind 100 other ≡ Some 0 → ⊥
full_once before bracket more other opening full e again =
    let none : ◌≡◌ {A = Option ℕ} None (Some 0) = sym (too_many before bracket more opening full) ∙ ap (room_behind 100) (sym e) ∙ again in
    absurd (let clash = none in cc)

pub deep_once : (tokens : List Token) (a b : ℕ) → IsTooDeep tokens a → IsTooDeep tokens b → a ≡ b
deep_once tokens a b d r =
    elim (cuts d.before (d.bracket ∷ d.rest) r.before (r.bracket ∷ r.rest) (sym d.joined ∙ r.joined)) [
      | Same _ e ↦ let same : d.bracket ≡ r.bracket = cc in d.here ∙ ap (λ (x : Token). x.at) same ∙ sym r.here
      | Later t more e f ↦ let same : d.bracket ≡ t = cc in absurd (full_once d.before d.bracket more r.before d.opening d.full (e ∙ ap (λ (x : Token). d.before ++ x ∷ more) (sym same)) r.full)
      | Earlier t more e f ↦ let same : r.bracket ≡ t = cc in absurd (full_once r.before r.bracket more d.before r.opening r.full (e ∙ ap (λ (x : Token). r.before ++ x ∷ more) (sym same)) d.full)
    ]

pub deep_not_shallow : (tokens : List Token) (a : ℕ) → IsTooDeep tokens a → IsShallow tokens → ⊥
deep_not_shallow tokens a d shallow = never_shallow (room_behind 100 tokens) (ap (room_behind 100) d.joined ∙ too_many d.before d.bracket d.rest d.opening d.full) shallow

pub syntax_not_text : (tokens : List Token) (end a : ℕ) (tree : SpecFile) → IsSyntax tokens end a → Grammar tokens tree → ⊥
syntax_not_text tokens end a tree s g = s.stuck s.rest tree (same_next s.rest) (subst (λ (x : List Token). Grammar x tree) s.joined g)
  where
    same_next : (ts : List Token) → SameNext ts ts
    same_next [] = refl
    same_next (t ∷ ts) = (ts, refl)

-- what the reading refuses is a fault of the tokens
pub fault_of : AreFound → (end : ℕ) (tokens : List Token) (e : SpecError) → (e ≢ Memory → read_file end 100 tokens ≡ Err e) → IsFault tokens end e
fault_of are_found end tokens Memory h = tt
fault_of are_found end tokens (Syntax at) h = parsed_fault are_found end tokens (Syntax at) (h (λ same. absurd (let clash = same in cc)))
fault_of are_found end tokens (TooDeep at) h = parsed_fault are_found end tokens (TooDeep at) (h (λ same. absurd (let clash = same in cc)))
fault_of are_found end tokens (BadToken at) h = parsed_fault are_found end tokens (BadToken at) (h (λ same. absurd (let clash = same in cc)))
fault_of are_found end tokens (UnknownName at) h = parsed_fault are_found end tokens (UnknownName at) (h (λ same. absurd (let clash = same in cc)))
fault_of are_found end tokens (RepeatedName at) h = parsed_fault are_found end tokens (RepeatedName at) (h (λ same. absurd (let clash = same in cc)))
fault_of are_found end tokens (TooLarge at) h = parsed_fault are_found end tokens (TooLarge at) (h (λ same. absurd (let clash = same in cc)))
fault_of are_found end tokens (BadNumber at) h = absurd (found_at are_found end tokens (Err (BadNumber at)) (h (λ same. absurd (let clash = same in cc))))
fault_of are_found end tokens (FinerLevel at) h = parsed_fault are_found end tokens (FinerLevel at) (h (λ same. absurd (let clash = same in cc)))
fault_of are_found end tokens (UnknownLocation at) h = parsed_fault are_found end tokens (UnknownLocation at) (h (λ same. absurd (let clash = same in cc)))

-- a text that is spelled has no fault
pub fault_not_spelled : (tokens : List Token) (end : ℕ) (e : SpecError) → IsFault tokens end e → (tree : SpecFile) → Spells tokens tree → e ≡ Memory
fault_not_spelled tokens end (Syntax at) fault tree s = absurd (syntax_not_text tokens end at tree fault s.grammar)
fault_not_spelled tokens end (TooDeep at) fault tree s = absurd (deep_not_shallow tokens at fault s.shallow)
fault_not_spelled tokens end (BadNumber at) fault tree s = let both : ◌≡◌ {A = Option ℕ} (Some at) None = sym fault.bad ∙ s.numbers in absurd (let clash = both in cc)
fault_not_spelled tokens end Memory fault tree s = refl
fault_not_spelled tokens end (BadToken at) fault tree s = absurd fault
fault_not_spelled tokens end (UnknownName at) fault tree s = absurd fault
fault_not_spelled tokens end (RepeatedName at) fault tree s = absurd fault
fault_not_spelled tokens end (TooLarge at) fault tree s = absurd fault
fault_not_spelled tokens end (FinerLevel at) fault tree s = absurd fault
fault_not_spelled tokens end (UnknownLocation at) fault tree s = absurd fault

pub fault_is_syntax : (tokens : List Token) (end : ℕ) (e : SpecError) → IsFault tokens end e → (at : ℕ) → IsSyntax tokens end at → (e ≡ Syntax at) ⊎ (e ≡ Memory)
fault_is_syntax tokens end (Syntax at) fault b s = inl (ap Syntax (syntax_once tokens end at b fault s))
fault_is_syntax tokens end (TooDeep at) fault b s = absurd (syntax_not_deep tokens end b at s fault)
fault_is_syntax tokens end (BadNumber at) fault b s = absurd (syntax_not_text tokens end b fault.tree s fault.grammar)
fault_is_syntax tokens end Memory fault b s = inr refl
fault_is_syntax tokens end (BadToken at) fault b s = absurd fault
fault_is_syntax tokens end (UnknownName at) fault b s = absurd fault
fault_is_syntax tokens end (RepeatedName at) fault b s = absurd fault
fault_is_syntax tokens end (TooLarge at) fault b s = absurd fault
fault_is_syntax tokens end (FinerLevel at) fault b s = absurd fault
fault_is_syntax tokens end (UnknownLocation at) fault b s = absurd fault

pub fault_is_deep : (tokens : List Token) (end : ℕ) (e : SpecError) → IsFault tokens end e → (at : ℕ) → IsTooDeep tokens at → (e ≡ TooDeep at) ⊎ (e ≡ Memory)
fault_is_deep tokens end (Syntax at) fault b d = absurd (syntax_not_deep tokens end at b fault d)
fault_is_deep tokens end (TooDeep at) fault b d = inl (ap TooDeep (deep_once tokens at b fault d))
fault_is_deep tokens end (BadNumber at) fault b d = absurd (deep_not_shallow tokens b d fault.shallow)
fault_is_deep tokens end Memory fault b d = inr refl
fault_is_deep tokens end (BadToken at) fault b d = absurd fault
fault_is_deep tokens end (UnknownName at) fault b d = absurd fault
fault_is_deep tokens end (RepeatedName at) fault b d = absurd fault
fault_is_deep tokens end (TooLarge at) fault b d = absurd fault
fault_is_deep tokens end (FinerLevel at) fault b d = absurd fault
fault_is_deep tokens end (UnknownLocation at) fault b d = absurd fault

same_offset : (a b : ℕ) → Some a ≡ Some b → a ≡ b
same_offset a b e = cc

pub fault_is_bad : (tokens : List Token) (end : ℕ) (e : SpecError) → IsFault tokens end e → (at : ℕ) → IsBadNumber tokens at → (e ≡ BadNumber at) ⊎ (e ≡ Memory)
fault_is_bad tokens end (Syntax at) fault b n = absurd (syntax_not_text tokens end at n.tree fault n.grammar)
fault_is_bad tokens end (TooDeep at) fault b n = absurd (deep_not_shallow tokens at fault n.shallow)
fault_is_bad tokens end (BadNumber at) fault b n = inl (ap BadNumber (same_offset at b (sym fault.bad ∙ n.bad)))
fault_is_bad tokens end Memory fault b n = inr refl
fault_is_bad tokens end (BadToken at) fault b n = absurd fault
fault_is_bad tokens end (UnknownName at) fault b n = absurd fault
fault_is_bad tokens end (RepeatedName at) fault b n = absurd fault
fault_is_bad tokens end (TooLarge at) fault b n = absurd fault
fault_is_bad tokens end (FinerLevel at) fault b n = absurd fault
fault_is_bad tokens end (UnknownLocation at) fault b n = absurd fault

-- a bad number of a text that is read so
pub bad_of : (tokens : List Token) (tree : SpecFile) (at : ℕ) → Parsed tokens tree → bad_number tokens ≡ Some at → IsBadNumber tokens at
bad_of tokens tree at p bad = record { tree = tree; grammar = p.grammar; shallow = p.shallow; bad = bad }

pub spells_of : (tokens : List Token) (tree : SpecFile) → Parsed tokens tree → bad_number tokens ≡ None → Spells tokens tree
spells_of tokens tree p none = record { grammar = p.grammar; shallow = p.shallow; numbers = none }

-- a text that is read has no fault
pub text_is_not_bad : (tokens : List Token) (at : ℕ) → bad_number tokens ≡ None → IsBadNumber tokens at → ⊥
text_is_not_bad tokens at none bad = let both : ◌≡◌ {A = Option ℕ} (Some at) None = sym bad.bad ∙ none in absurd (let clash = both in cc)
