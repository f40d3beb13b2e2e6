-- "prints one line ended by 0x0A": the bytes of the line, from a report of the model.
use Rattle.std.specs.Prelude.{ℕ, zero, suc, ◌+◌, ◌/◌, ◌%◌, cond, List, [], ◌∷◌, ◌++◌, ltb, eqb}
use Prim.Native.Char.{code}
use Prim.Native.String.{String, [] as none, ◌∷◌ as ◌then◌}
use Rattle.model.specs.Decision.{Report, Verdict, allow, deny, refusal}

-- the bytes of a text of ASCII characters
abbrev pub text : String → List ℕ
text none = []
text (c then s) = code c ∷ text s

-- n with at most `most` digits, the last of them n % 10
unfoldable pub decimal_by : ℕ → ℕ → List ℕ
decimal_by zero n = []
decimal_by (suc most) n = cond (ltb n 10) ((48 + n) ∷ []) (decimal_by most (n / 10) ++ ((48 + n % 10) ∷ []))

-- the decimal digits of n without leading zeros, "0" for 0: n + 1 digits are always enough
unfoldable pub decimal : ℕ → List ℕ
decimal n = decimal_by (suc n) n

-- `allow facts 10 rounds 3 answers 1`: "decision word (allow or deny), then the three counts"
unfoldable pub decision_line : List ℕ → ℕ → ℕ → ℕ → List ℕ
decision_line word facts rounds answers =
    word ++ text " facts " ++ decimal facts ++ text " rounds " ++ decimal rounds ++ text " answers " ++ decimal answers ++ text "\n"

-- "side (policy, request, none)"; of the slices that requests 02 and 05 add, their names
unfoldable pub side_word : ℕ → List ℕ
side_word side =
    cond (eqb side 1) (text " policy ")
    (cond (eqb side 2) (text " request ")
    (cond (eqb side 3) (text " withdrawals ")
    (cond (eqb side 4) (text " hierarchy ")
    (text " none "))))

-- `refused 8 none 0`: "number, side, place"
unfoldable pub refusal_line : ℕ → ℕ → ℕ → List ℕ
refusal_line number side place = text "refused " ++ decimal number ++ side_word side ++ decimal place ++ text "\n"

unfoldable pub line_by : Verdict → ℕ → ℕ → ℕ → List ℕ
line_by allow facts rounds answers = decision_line (text "allow") facts rounds answers
line_by deny facts rounds answers = decision_line (text "deny") facts rounds answers
line_by (refusal number side place) facts rounds answers = refusal_line number side place

unfoldable pub line_of : Report → List ℕ
line_of r = line_by r.verdict r.facts r.rounds r.answers
