-- The text of the specification is cut into its tokens.
use Rattle.std.proofs.Common.{refl, inl, inr, ℕ, List, [], ◌∷◌, codes}
use Rattle.rela_lex.specs.Spells.{Blank, EachStands, Lexeme, Piece, Spells}
use Rattle.rela_lex.specs.declared.token.Token.{Token}
use Rattle.rela_lex.specs.declared.token.TokenKind.{TokenKind}
use Rattle.rela_lex.specs.declared.token.TokenKind.TheVariants.{Bare, Mark}
use Rattle.rela_demo.specs.Names.{label_b, device_name}
use Rattle.rela_demo.specs.Specification.{specification_text}
use Rattle.rela_demo.proofs.LabelNames.{last_label}

abbrev pub token : ℕ → TokenKind → Token
token at kind = record { at = at; kind = kind }

abbrev pieces : ℕ → List Piece
pieces n =
    (Lexeme (Bare (codes "level"))) ∷ (Blank 32) ∷ (Lexeme (Bare (codes "device"))) ∷ (Lexeme (Mark 59)) ∷ (Blank 10) ∷
    (Lexeme (Bare (codes "check"))) ∷ (Blank 32) ∷ (Lexeme (Bare (codes "c1"))) ∷ (Blank 32) ∷ (Lexeme (Bare (codes "for"))) ∷ (Blank 32) ∷
    (Lexeme (Bare (codes "not"))) ∷ (Blank 32) ∷ (Lexeme (Bare (codes "flow"))) ∷ (Blank 32) ∷ (Lexeme (Bare (codes "f7"))) ∷ (Blank 32) ∷
    (Lexeme (Mark 58)) ∷ (Blank 32) ∷ (Lexeme (Mark 123)) ∷ (Blank 32) ∷ (Lexeme (Mark 46)) ∷ (Lexeme (Mark 42)) ∷ (Blank 32) ∷ (Lexeme (Mark 58)) ∷
    (Blank 32) ∷ (Lexeme (Bare (codes "preserve"))) ∷ (Blank 32) ∷ (Lexeme (Mark 125)) ∷ (Lexeme (Mark 59)) ∷ (Blank 10) ∷
    (Lexeme (Bare (codes "check"))) ∷ (Blank 32) ∷ (Lexeme (Bare (codes "c2"))) ∷ (Blank 32) ∷ (Lexeme (Bare (codes "for"))) ∷ (Blank 32) ∷
    (Lexeme (Bare (codes "flow"))) ∷ (Blank 32) ∷ (Lexeme (Bare (codes "f7"))) ∷ (Blank 32) ∷ (Lexeme (Mark 58)) ∷ (Blank 32) ∷ (Lexeme (Mark 123)) ∷
    (Blank 32) ∷ (Lexeme (Mark 46)) ∷ (Lexeme (Mark 42)) ∷ (Blank 32) ∷ (Lexeme (Mark 58)) ∷ (Blank 32) ∷ (Lexeme (Bare (codes "preserve"))) ∷
    (Blank 32) ∷ (Lexeme (Mark 125)) ∷ (Blank 32) ∷ (Lexeme (Bare (codes "then"))) ∷ (Blank 32) ∷ (Lexeme (Mark 123)) ∷ (Blank 32) ∷
    (Lexeme (Bare (device_name (label_b n)))) ∷ (Blank 32) ∷ (Lexeme (Mark 58)) ∷ (Blank 32) ∷ (Lexeme (Bare (codes "drop"))) ∷ (Blank 32) ∷
    (Lexeme (Mark 125)) ∷ (Blank 32) ∷ (Lexeme (Bare (codes "else"))) ∷ (Blank 32) ∷ (Lexeme (Mark 123)) ∷ (Blank 32) ∷ (Lexeme (Mark 46)) ∷
    (Lexeme (Mark 42)) ∷ (Blank 32) ∷ (Lexeme (Mark 58)) ∷ (Blank 32) ∷ (Lexeme (Bare (codes "preserve"))) ∷ (Blank 32) ∷ (Lexeme (Mark 125)) ∷
    (Lexeme (Mark 59)) ∷ (Blank 10) ∷ []

-- the tokens from the second check on, and all
abbrev pub later_tokens : ℕ → List Token
later_tokens n =
    token 60 (Bare (codes "check")) ∷ token 66 (Bare (codes "c2")) ∷ token 69 (Bare (codes "for")) ∷ token 73 (Bare (codes "flow")) ∷ token 78 (Bare (codes "f7")) ∷
    token 81 (Mark 58) ∷ token 83 (Mark 123) ∷ token 85 (Mark 46) ∷ token 86 (Mark 42) ∷ token 88 (Mark 58) ∷ token 90 (Bare (codes "preserve")) ∷
    token 99 (Mark 125) ∷ token 101 (Bare (codes "then")) ∷ token 106 (Mark 123) ∷ token 108 (Bare (device_name (label_b n))) ∷ token 113 (Mark 58) ∷
    token 115 (Bare (codes "drop")) ∷ token 120 (Mark 125) ∷ token 122 (Bare (codes "else")) ∷ token 127 (Mark 123) ∷ token 129 (Mark 46) ∷
    token 130 (Mark 42) ∷ token 132 (Mark 58) ∷ token 134 (Bare (codes "preserve")) ∷ token 143 (Mark 125) ∷ token 144 (Mark 59) ∷ []

abbrev pub all_tokens : ℕ → List Token
all_tokens n =
    token 0 (Bare (codes "level")) ∷ token 6 (Bare (codes "device")) ∷ token 12 (Mark 59) ∷ token 14 (Bare (codes "check")) ∷
    token 20 (Bare (codes "c1")) ∷ token 23 (Bare (codes "for")) ∷ token 27 (Bare (codes "not")) ∷ token 31 (Bare (codes "flow")) ∷
    token 36 (Bare (codes "f7")) ∷ token 39 (Mark 58) ∷ token 41 (Mark 123) ∷ token 43 (Mark 46) ∷ token 44 (Mark 42) ∷ token 46 (Mark 58) ∷
    token 48 (Bare (codes "preserve")) ∷ token 57 (Mark 125) ∷ token 58 (Mark 59) ∷ later_tokens n

each_stands : (n : ℕ) → EachStands (pieces n) []
each_stands n = (
  (refl, refl, refl),
  (
    refl,
    (
      (refl, refl, refl),
      (
        inl refl,
        (
          refl,
          (
            (refl, refl, refl),
            (
              refl,
              (
                (refl, refl, refl),
                (
                  refl,
                  (
                    (refl, refl, refl),
                    (
                      refl,
                      (
                        (refl, refl, refl),
                        (
                          refl,
                          (
                            (refl, refl, refl),
                            (
                              refl,
                              (
                                (refl, refl, refl),
                                (
                                  refl,
                                  (
                                    inr (refl, refl),
                                    (
                                      refl,
                                      (
                                        inl refl,
                                        (
                                          refl,
                                          (
                                            inr (refl, refl),
                                            (
                                              inl refl,
                                              (
                                                refl,
                                                (
                                                  inr (refl, refl),
                                                  (
                                                    refl,
                                                    (
                                                      (refl, refl, refl),
                                                      (
                                                        refl,
                                                        (
                                                          inl refl,
                                                          (
                                                            inl refl,
                                                            (
                                                              refl,
                                                              (
                                                                (refl, refl, refl),
                                                                (
                                                                  refl,
                                                                  (
                                                                    (refl, refl, refl),
                                                                    (
                                                                      refl,
                                                                      (
                                                                        (refl, refl, refl),
                                                                        (
                                                                          refl,
                                                                          (
                                                                            (refl, refl, refl),
                                                                            (
                                                                              refl,
                                                                              (
                                                                                (refl, refl, refl),
                                                                                (
                                                                                  refl,
                                                                                  (
                                                                                    inr (refl, refl),
                                                                                    (
                                                                                      refl,
                                                                                      (
                                                                                        inl refl,
                                                                                        (
                                                                                          refl,
                                                                                          (
                                                                                            inr (refl, refl),
                                                                                            (
                                                                                              inl refl,
                                                                                              (
                                                                                                refl,
                                                                                                (
                                                                                                  inr (refl, refl),
                                                                                                  (
                                                                                                    refl,
                                                                                                    (
                                                                                                      (refl, refl, refl),
                                                                                                      (
                                                                                                        refl,
                                                                                                        (
                                                                                                          inl refl,
                                                                                                          (
                                                                                                            refl,
                                                                                                            (
                                                                                                              (refl, refl, refl),
                                                                                                              (
                                                                                                                refl,
                                                                                                                (
                                                                                                                  inl refl,
                                                                                                                  (
                                                                                                                    refl,
                                                                                                                    (
                                                                                                                      ((last_label n).device, refl, refl),
                                                                                                                      (
                                                                                                                        refl,
                                                                                                                        (
                                                                                                                          inr (refl, refl),
                                                                                                                          (
                                                                                                                            refl,
                                                                                                                            (
                                                                                                                              (refl, refl, refl),
                                                                                                                              (
                                                                                                                                refl,
                                                                                                                                (
                                                                                                                                  inl refl,
                                                                                                                                  (
                                                                                                                                    refl,
                                                                                                                                    (
                                                                                                                                      (refl, refl, refl),
                                                                                                                                      (
                                                                                                                                        refl,
                                                                                                                                        (
                                                                                                                                          inl refl,
                                                                                                                                          (
                                                                                                                                            refl,
                                                                                                                                            (
                                                                                                                                              inr (refl, refl),
                                                                                                                                              (
                                                                                                                                                inl refl,
                                                                                                                                                (
                                                                                                                                                  refl,
                                                                                                                                                  (
                                                                                                                                                    inr (refl, refl),
                                                                                                                                                    (
                                                                                                                                                      refl,
                                                                                                                                                      ((refl, refl, refl), (refl, (inl refl, (inl refl, (refl, tt))))),
                                                                                                                                                    ),
                                                                                                                                                  ),
                                                                                                                                                ),
                                                                                                                                              ),
                                                                                                                                            ),
                                                                                                                                          ),
                                                                                                                                        ),
                                                                                                                                      ),
                                                                                                                                    ),
                                                                                                                                  ),
                                                                                                                                ),
                                                                                                                              ),
                                                                                                                            ),
                                                                                                                          ),
                                                                                                                        ),
                                                                                                                      ),
                                                                                                                    ),
                                                                                                                  ),
                                                                                                                ),
                                                                                                              ),
                                                                                                            ),
                                                                                                          ),
                                                                                                        ),
                                                                                                      ),
                                                                                                    ),
                                                                                                  ),
                                                                                                ),
                                                                                              ),
                                                                                            ),
                                                                                          ),
                                                                                        ),
                                                                                      ),
                                                                                    ),
                                                                                  ),
                                                                                ),
                                                                              ),
                                                                            ),
                                                                          ),
                                                                        ),
                                                                      ),
                                                                    ),
                                                                  ),
                                                                ),
                                                              ),
                                                            ),
                                                          ),
                                                        ),
                                                      ),
                                                    ),
                                                  ),
                                                ),
                                              ),
                                            ),
                                          ),
                                        ),
                                      ),
                                    ),
                                  ),
                                ),
                              ),
                            ),
                          ),
                        ),
                      ),
                    ),
                  ),
                ),
              ),
            ),
          ),
        ),
      ),
    ),
  ),
)

pub lexed : (n : ℕ) → Spells (specification_text n) (all_tokens n)
lexed n = record { pieces = pieces n; cut = record { joined = refl; stands = each_stands n }; read = refl }
