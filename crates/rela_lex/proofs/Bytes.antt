-- Which bytes can stand first in which pieces.
use Rattle.std.proofs.Common.{◌≡◌, ℕ, Bool, true, false, ◌==◌, not, List, [], ◌∷◌, refl, sym, subst, inl, inr, codes}
use Rattle.std.specs.List.{list_all, list_any}
use Rattle.std.proofs.lemmas.Bool.{and_parts, or_cases, not-true, eqb-true, ne_eqb, both_ways, false≢true}
use Rattle.rela_names.specs.Name.{is_name_byte}
use Rattle.rela_lex.specs.Spells.{is_blank, is_mark}

-- a byte that is among others which all pass
among : (byte : ℕ) (others : List ℕ) (passes : ℕ → Bool) → list_any (λ other. byte == other) others ≡ true → list_all passes others ≡ true
    → passes byte ≡ true
among byte [] passes any all = absurd (false≢true any)
among byte (other ∷ others) passes any all =
    let both = and_parts (passes other) (list_all passes others) all in
    elim (or_cases (byte == other) (list_any (λ x. byte == x) others) any) [
      | inl same ↦ subst (λ x. passes x ≡ true) (sym (eqb-true byte other same)) both.0
      | inr later ↦ among byte others passes later both.1
    ]

-- a byte that passes is none that doesn't
pub apart : (byte other : ℕ) (passes : ℕ → Bool) → passes byte ≡ true → passes other ≡ false → (byte == other) ≡ false
apart byte other passes holds fails = ne_eqb byte other (λ e. both_ways (passes other) fails (subst (λ x. passes x ≡ true) e holds))

-- a byte that passes is no blank where no blank passes
none_of : (byte : ℕ) (passes : ℕ → Bool) → passes byte ≡ true → passes 32 ≡ false → passes 9 ≡ false → passes 13 ≡ false → passes 10 ≡ false
    → is_blank byte ≡ false
none_of byte passes holds blank tab return feed =
    rw (apart byte 32 passes holds blank, apart byte 9 passes holds tab, apart byte 13 passes holds return, apart byte 10 passes holds feed) refl

-- a byte that begins no blank, comment, quoted word or reference
pub record IsOther (byte : ℕ) : Type 0 where
  pub blank : is_blank byte ≡ false
  pub hash : (byte == 35) ≡ false
  pub quote : (byte == 34) ≡ false
  pub dollar : (byte == 36) ≡ false

pub name_byte_is_other : (byte : ℕ) → is_name_byte byte ≡ true → IsOther byte
name_byte_is_other byte holds = record {
  blank = none_of byte is_name_byte holds refl refl refl refl;
  hash = apart byte 35 is_name_byte holds refl;
  quote = apart byte 34 is_name_byte holds refl;
  dollar = apart byte 36 is_name_byte holds refl;
}

pub mark_is_other : (byte : ℕ) → is_mark byte ≡ true → IsOther byte
mark_is_other byte holds = record {
  blank = none_of byte is_mark holds refl refl refl refl;
  hash = apart byte 35 is_mark holds refl;
  quote = apart byte 34 is_mark holds refl;
  dollar = apart byte 36 is_mark holds refl;
}

pub mark_is_no_name_byte : (byte : ℕ) → is_mark byte ≡ true → is_name_byte byte ≡ false
mark_is_no_name_byte byte holds =
    not-true (is_name_byte byte) (among byte (codes "(){}[]^*+?!&|,;=") (λ x. not (is_name_byte x)) holds refl)
