use Rattle.std.proofs.Common.{◌≡◌, ℕ, Bool, false, List, [], ◌∷◌, ◌++◌, ap, sym, ◌∙◌, arith, Bor, map}
use Rattle.std.proofs.lemmas.List.{length-map}
use Rattle.std.specs.List.{list_any}
use Rattle.std.specs.Str.{bytes_eq}
use Rattle.std.specs.Prelude.{if◌then◌else◌}
use Rattle.rela_locations.specs.Names.{has_name}
use Rattle.rela_claims.specs.Written.{names_taken}
use Rattle.rela_claims.proofs.FreeNames.{name_is_free, name_is_taken, names_are_full}
use Rattle.rela_claims.proofs.Views.{any_of_view, map_last}
use Rattle.rela_claims.proofs.names.Names.take.Goals as goal

abbrev now : Bor (List ℕ) → List ℕ
now name = name.now

-- whether the name is among those that are lent
has_lent : (keys : List (Bor (List ℕ))) (lent name : List ℕ) (found : Bool) → lent ≡ name → found ≡ list_any (λ k. bytes_eq lent k.now) keys → has_name (map now keys) name ≡ found
has_lent keys lent name found same is = any_of_view now (bytes_eq name) keys ∙ ap (λ (n : List ℕ). list_any (λ k. bytes_eq n k.now) keys) (sym same) ∙ sym is

one_more : (keys more : List (Bor (List ℕ))) (name : Bor (List ℕ)) → list_any (λ k. bytes_eq name.now k.now) keys ≡ false
    → more ≡ (if list_any (λ k. bytes_eq name.now k.now) keys then keys else keys ++ name ∷ []) → map now more ≡ map now keys ++ name.now ∷ []
one_more keys more name new is =
    ap (map now) (is ∙ ap (λ (b : Bool). if b then keys else keys ++ name ∷ []) new) ∙ map_last now keys name

pub returns-then-contains-clause-refused : goal.returns-then-contains-clause-refused
returns-then-contains-clause-refused c =
    λ apart.
    name_is_taken (names_taken c.args.self.now) c.args.name.now c.args.at
    (has_lent c.args.self.now.taken.keys c.as_bytes.result.now c.args.name.now c.contains.result c.as_bytes.ensures.bytes c.contains.ensures ∙ c.if-contains.true)

pub returns-then-len-ge-MAX_CLAIMS-clause-refused : goal.returns-then-len-ge-MAX_CLAIMS-clause-refused
returns-then-len-ge-MAX_CLAIMS-clause-refused c =
    λ apart.
    names_are_full (names_taken c.args.self.now) c.args.name.now c.args.at
    (has_lent c.args.self.now.taken.keys c.as_bytes.result.now c.args.name.now c.contains.result c.as_bytes.ensures.bytes c.contains.ensures ∙ c.if-contains.false)
    (omega (arith, length-map c.args.self.now.taken.keys now, c.len.ensures.len, c.if-len-ge-MAX_CLAIMS.true))

pub returns-in_err-insert-clause-memory : goal.returns-in_err-insert-clause-memory
returns-in_err-insert-clause-memory c =
    λ wanted.
    name_is_free (names_taken c.args.self.now) c.args.name.now c.args.at
    (has_lent c.args.self.now.taken.keys c.as_bytes.result.now c.args.name.now c.contains.result c.as_bytes.ensures.bytes c.contains.ensures ∙ c.if-contains.false)
    (omega (arith, length-map c.args.self.now.taken.keys now, c.len.ensures.len, c.if-len-ge-MAX_CLAIMS.false))

pub returns-clause-free : goal.returns-clause-free
returns-clause-free c =
    name_is_free (names_taken c.args.self.now) c.args.name.now c.args.at
    (has_lent c.args.self.now.taken.keys c.as_bytes.result.now c.args.name.now c.contains.result c.as_bytes.ensures.bytes c.contains.ensures ∙ c.if-contains.false)
    (omega (arith, length-map c.args.self.now.taken.keys now, c.len.ensures.len, c.if-len-ge-MAX_CLAIMS.false))

pub returns-clause-taken : goal.returns-clause-taken
returns-clause-taken c =
    one_more c.args.self.now.taken.keys c.insert.new.self.keys c.as_bytes-2.result
    (ap (λ (n : List ℕ). list_any (λ k. bytes_eq n k.now) c.args.self.now.taken.keys) (c.as_bytes-2.ensures.bytes ∙ sym c.as_bytes.ensures.bytes)
    ∙ sym c.contains.ensures ∙ c.if-contains.false)
    c.in_ok-insert.ensures.keys
    ∙ ap (λ (n : List ℕ). names_taken c.args.self.now ++ n ∷ []) c.as_bytes-2.ensures.bytes
