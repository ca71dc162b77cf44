-- Runs as numbers, by which the code knows the reserved words.
use Rattle.std.specs.Prelude.{◌≡◌, Bool, true, false, cond, List, [], ◌∷◌, ◌++◌, map, ℕ, ◌+◌, ◌-◌, ◌*◌, ◌%◌, ◌<◌, length, get_or, take, drop, Option, Some, None}
use types.Run.{OneOf}
use Rattle.paper.specs.Words.{between, is_underscore}

-- A to Z are 1 to 26, the underscore 27; every other byte is 28, and in no reserved word
abbrev pub key_digit : ℕ → ℕ
key_digit c = cond (between 65 90 c) (c - 64) (cond (is_underscore c) 27 28)

-- to the base 29, the first byte the lowest
unfoldable pub key_of : List ℕ → ℕ
key_of [] = 0
key_of (c ∷ s) = key_digit c + 29 * key_of s

-- the keys of the reserved words, in the order of their list
abbrev pub keys : List ℕ
keys =
    7766129256 ∷ 5492835666975214 ∷ 10376987030152 ∷ 300936430693961 ∷ 15189
    ∷ 10743553387 ∷ 17722075 ∷ 189 ∷ 183 ∷ 345903
    ∷ 4479519 ∷ 138277 ∷ 130094701 ∷ 137956 ∷ 97574319914
    ∷ 15579 ∷ 455 ∷ 727 ∷ 439 ∷ 11019392977
    ∷ 305720 ∷ 17235 ∷ 499836 ∷ 499819 ∷ 14494772
    ∷ 17269 ∷ 3812 ∷ 3771 ∷ 15597 ∷ 537
    ∷ 140148 ∷ 4009923 ∷ 8622125557503584 ∷ 8621832309606331 ∷ 250033040509874808
    ∷ 8622222026212396 ∷ 250033136978583620 ∷ 7250958174786369453 ∷ 8622222026212379 ∷ 250041641167603940
    ∷ 7250958174786369436 ∷ 250044438760159012 ∷ 7251207593860514281 ∷ 7250960972378924508 ∷ 3836897
    ∷ 2713765009335 ∷ 411065825 ∷ 290739048434103 ∷ 8724120 ∷ 496050
    ∷ 300416296 ∷ []

-- those of declarations and statements, and those of types, operators, truth values and conversions
abbrev pub keyword_keys : List ℕ
keyword_keys = take 20 keys ++ drop 44 keys

abbrev pub operand_keys : List ℕ
operand_keys = take 24 (drop 20 keys)

-- a is none of the keys of the arms of a `match`, as the last arm knows it, besides N
abbrev pub NoneOf : List (List ℕ) → ℕ → Type 0 → Type 0
NoneOf [] a N = N
NoneOf (ks ∷ arms) a N = NoneOf arms a (N × (OneOf ks a → ⊥))

-- an arm for each of ks
abbrev pub singly : List ℕ → List (List ℕ)
singly ks = map (λ k. k ∷ []) ks

-- the number of the word with this key, if one of ks is this key
abbrev pub Numbered : List ℕ → ℕ → Option ℕ → Type 0
Numbered ks key (Some i) = (i < 51) × (key ≡ get_or keys i 0)
Numbered ks key None = NoneOf (singly ks) key (Unit {0})

-- ---- which runs can't be reserved

-- the length and the first byte of a run as one number, the same for a letter of either case
abbrev pub form_of : List ℕ → ℕ
form_of s = length s * 32 + get_or s 0 0 % 32

-- the forms of the reserved words, letter by letter in the order of the code
abbrev pub forms : List (List ℕ)
forms =
    (97 ∷ 161 ∷ []) ∷ (66 ∷ 130 ∷ []) ∷ (131 ∷ []) ∷ (68 ∷ 132 ∷ 356 ∷ 388 ∷ 420 ∷ [])
    ∷ (133 ∷ 165 ∷ 197 ∷ 229 ∷ 261 ∷ 293 ∷ 325 ∷ 357 ∷ []) ∷ (102 ∷ 166 ∷ []) ∷ (73 ∷ 105 ∷ 361 ∷ 393 ∷ [])
    ∷ (109 ∷ []) ∷ (110 ∷ []) ∷ (79 ∷ []) ∷ (240 ∷ []) ∷ (210 ∷ []) ∷ (84 ∷ 148 ∷ [])
    ∷ (149 ∷ 181 ∷ 373 ∷ 405 ∷ 437 ∷ []) ∷ (118 ∷ 310 ∷ 342 ∷ []) ∷ (183 ∷ []) ∷ (120 ∷ []) ∷ []

-- no is said only of what is none of the keys of the arms
abbrev pub Excludes : List (List ℕ) → ℕ → Bool → Type 0
Excludes arms a true = Unit {0}
Excludes arms a false = NoneOf arms a (Unit {0})
