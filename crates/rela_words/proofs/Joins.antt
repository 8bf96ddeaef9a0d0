-- Parts before others.
use Rattle.std.proofs.Common.{◌≡◌, ◌++◌, ◌&&◌, ◌||◌, Bool, true, false, List, [], ◌∷◌, Option, Some, None, refl, ap, append_assoc, append-nil}
use Rattle.std.specs.Prelude.{if◌then◌else◌, option_map, option_and_then}
use Rattle.rela_words.specs.Words.{Parts}
use Rattle.rela_words.proofs.WordKinds.{Word}
use Rattle.rela_words.proofs.Readings.{flagged, only_operands, with_limit, with_operand}

-- both one after the other, where the flag isn't in both
abbrev pub join : Parts → Parts → Option Parts
join a p = if a.blame && p.blame then None else Some (record {
  operands = a.operands ++ p.operands;
  limits = a.limits ++ p.limits;
  blame = a.blame || p.blame;
})

abbrev pub joined : Parts → Option Parts → Option Parts
joined a r = option_and_then (join a) r

abbrev pub more_operand : Parts → Word → Parts
more_operand a w = record a { operands = a.operands ++ w ∷ [] }

abbrev pub more_limit : Parts → Word → Parts
more_limit a w = record a { limits = a.limits ++ w ∷ [] }

abbrev pub more_flag : Parts → Parts
more_flag a = record a { blame = true }

abbrev pub more_operands : Parts → List Word → Parts
more_operands a ws = record a { operands = a.operands ++ ws }

module _ (a : Parts) where
  abbrev joint : Parts → List Word → List Word → Option Parts
  joint p operands limits = if a.blame && p.blame then None else Some (record {
    operands = operands;
    limits = limits;
    blame = a.blame || p.blame;
  })

  pub operand_join : (w : Word) (r : Option Parts) → joined (more_operand a w) r ≡ joined a (option_map (with_operand w) r)
  operand_join w None = refl
  operand_join w (Some p) = ap (λ o. joint p o (a.limits ++ p.limits)) (append_assoc a.operands (w ∷ []) p.operands)

  pub limit_join : (w : Word) (r : Option Parts) → joined (more_limit a w) r ≡ joined a (option_map (with_limit w) r)
  limit_join w None = refl
  limit_join w (Some p) = ap (λ l. joint p (a.operands ++ p.operands) l) (append_assoc a.limits (w ∷ []) p.limits)

  pub operands_join : (ws : List Word) → joined a (Some (only_operands ws)) ≡ Some (more_operands a ws)
  operands_join ws = by a.blame refl
    where
      by : (b : Bool) → a.blame ≡ b → joined a (Some (only_operands ws)) ≡ Some (more_operands a ws)
      by true is = rw (is, append-nil a.limits) refl
      by false is = rw (is, append-nil a.limits) refl

  pub flag_join : a.blame ≡ false → (r : Option Parts) → joined (more_flag a) r ≡ joined a (option_and_then flagged r)
  flag_join none None = refl
  flag_join none (Some p) = by p.blame refl
    where
      by : (b : Bool) → p.blame ≡ b → joined (more_flag a) (Some p) ≡ joined a (flagged p)
      by true is = rw is refl
      by false is = rw (is, none) refl

  pub flag_twice_join : a.blame ≡ true → (r : Option Parts) → joined a (option_and_then flagged r) ≡ None
  flag_twice_join some None = refl
  flag_twice_join some (Some p) = by p.blame refl
    where
      by : (b : Bool) → p.blame ≡ b → joined a (flagged p) ≡ None
      by true is = rw is refl
      by false is = rw (is, some) refl
