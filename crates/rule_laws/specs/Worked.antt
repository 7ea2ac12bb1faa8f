-- Fifteen worked bids with their whole answers and rows. Assumes nothing.
use Rattle.std.specs.Prelude.{◌≡◌, ℕ, cond, List, [], ◌∷◌, ◌++◌, map, length, drop, replicate, pos, negsuc, Some, None, ◌==◌}
use Rattle.register.specs.declared.data.Card.{Card}
use Rattle.register.specs.declared.data.Day.{Day}
use Rattle.register.specs.Cards.{blank_card, regulation, with_unit, with_services, with_limit}
use Rattle.register.specs.Meaning.{Meaning}
use Rattle.rule_laws.specs.Judging.{Verdict, judged}

-- 24 hours, floor -$150.00, caps $1,000.00 and $2,000.00, service cap $250.00
abbrev pub worked_day : Day
worked_day = record { hours = 24; floor = negsuc 14999; soft_cap = pos 100000; hard_cap = pos 200000; service_cap = pos 25000 }

-- a blank card with an owner, limits, certified quantities, one award, a regulation limit and a level
abbrev pub worked_card : Card
worked_card = with_limit (with_services (with_unit blank_card 3 2000 10000) (regulation 1500 500) (regulation 0 0) 2000 1000) 9000 (pos 120000)

abbrev pub worked_meaning : Meaning
worked_meaning = record { day = worked_day; cards = λ n. cond (n == 7) (Some worked_card) None }

-- a filed record, its verdict and its row
pub record Case : Type 0 where
  pub filed : List ℕ
  pub verdict : Verdict
  pub row : List ℕ

abbrev pub worked : List ℕ → Verdict → List ℕ → Case
worked f v r = record { filed = f; verdict = v; row = r }

-- memory that the rows are written into
abbrev pub memory : List ℕ
memory = replicate 40 255

abbrev pub cases : List Case
cases =
    -- no component
    worked (0 ∷ 7 ∷ 1 ∷ 0 ∷ 0 ∷ []) (0, 0, 0, 16, 13) (0 ∷ 7 ∷ 1 ∷ 0 ∷ 4 ∷ 0 ∷ 0 ∷ 3 ∷ 232 ∷ 0 ∷ 0 ∷ 0 ∷ 0 ∷ [])
    ∷
    -- self-schedule below PMin
    worked (0 ∷ 7 ∷ 1 ∷ 0 ∷ 1 ∷ 0 ∷ 0 ∷ 7 ∷ 207 ∷ []) (9, 3, 0, 0, 0) ([])
    ∷
    -- self-schedule at PMin
    worked (0 ∷ 7 ∷ 1 ∷ 0 ∷ 1 ∷ 0 ∷ 0 ∷ 7 ∷ 208 ∷ []) (0, 0, 0, 16, 17) (0 ∷ 7 ∷ 1 ∷ 0 ∷ 5 ∷ 0 ∷ 0 ∷ 7 ∷ 208 ∷ 0 ∷ 0 ∷ 3 ∷ 232 ∷ 0 ∷ 0 ∷ 0 ∷ 0 ∷ [])
    ∷
    -- self-schedule at PMax, above the regulation limit
    worked (0 ∷ 7 ∷ 1 ∷ 0 ∷ 1 ∷ 0 ∷ 0 ∷ 39 ∷ 16 ∷ []) (0, 0, 0, 0, 9) (0 ∷ 7 ∷ 1 ∷ 0 ∷ 1 ∷ 0 ∷ 0 ∷ 39 ∷ 16 ∷ [])
    ∷
    -- self-schedule above PMax
    worked (0 ∷ 7 ∷ 1 ∷ 0 ∷ 1 ∷ 0 ∷ 0 ∷ 39 ∷ 17 ∷ []) (9, 3, 0, 0, 0) ([])
    ∷
    -- a step priced at the ceiling
    worked (0 ∷ 7 ∷ 1 ∷ 0 ∷ 2 ∷ 0 ∷ 0 ∷ 7 ∷ 208 ∷ 1 ∷ 0 ∷ 0 ∷ 39 ∷ 16 ∷ 0 ∷ 1 ∷ 212 ∷ 192 ∷ []) (0, 0, 0, 16, 26) (0 ∷ 7 ∷ 1 ∷ 0 ∷ 6 ∷ 0 ∷ 0 ∷ 7 ∷ 208 ∷ 1 ∷ 0 ∷ 0 ∷ 39 ∷ 16 ∷ 0 ∷ 1 ∷ 212 ∷ 192 ∷ 0 ∷ 0 ∷ 3 ∷ 232 ∷ 0 ∷ 0 ∷ 0 ∷ 0 ∷ [])
    ∷
    -- a step a cent above the ceiling
    worked (0 ∷ 7 ∷ 1 ∷ 0 ∷ 2 ∷ 0 ∷ 0 ∷ 7 ∷ 208 ∷ 1 ∷ 0 ∷ 0 ∷ 39 ∷ 16 ∷ 0 ∷ 1 ∷ 212 ∷ 193 ∷ []) (0, 0, 0, 17, 26) (0 ∷ 7 ∷ 1 ∷ 0 ∷ 6 ∷ 0 ∷ 0 ∷ 7 ∷ 208 ∷ 1 ∷ 0 ∷ 0 ∷ 39 ∷ 16 ∷ 0 ∷ 1 ∷ 212 ∷ 192 ∷ 0 ∷ 0 ∷ 3 ∷ 232 ∷ 0 ∷ 0 ∷ 0 ∷ 0 ∷ [])
    ∷
    -- a step above the hard cap
    worked (0 ∷ 7 ∷ 1 ∷ 0 ∷ 2 ∷ 0 ∷ 0 ∷ 7 ∷ 208 ∷ 1 ∷ 0 ∷ 0 ∷ 39 ∷ 16 ∷ 0 ∷ 3 ∷ 13 ∷ 65 ∷ []) (12, 3, 1, 0, 0) ([])
    ∷
    -- a step at the floor
    worked (0 ∷ 7 ∷ 1 ∷ 0 ∷ 2 ∷ 0 ∷ 0 ∷ 7 ∷ 208 ∷ 1 ∷ 0 ∷ 0 ∷ 39 ∷ 16 ∷ 255 ∷ 255 ∷ 197 ∷ 104 ∷ []) (0, 0, 0, 16, 26) (0 ∷ 7 ∷ 1 ∷ 0 ∷ 6 ∷ 0 ∷ 0 ∷ 7 ∷ 208 ∷ 1 ∷ 0 ∷ 0 ∷ 39 ∷ 16 ∷ 255 ∷ 255 ∷ 197 ∷ 104 ∷ 0 ∷ 0 ∷ 3 ∷ 232 ∷ 0 ∷ 0 ∷ 0 ∷ 0 ∷ [])
    ∷
    -- a step below the floor
    worked (0 ∷ 7 ∷ 1 ∷ 0 ∷ 2 ∷ 0 ∷ 0 ∷ 7 ∷ 208 ∷ 1 ∷ 0 ∷ 0 ∷ 39 ∷ 16 ∷ 255 ∷ 255 ∷ 197 ∷ 103 ∷ []) (12, 3, 1, 0, 0) ([])
    ∷
    -- Spinning alone is erased
    worked (0 ∷ 7 ∷ 1 ∷ 0 ∷ 16 ∷ 0 ∷ 0 ∷ 1 ∷ 244 ∷ 0 ∷ 0 ∷ 0 ∷ 0 ∷ []) (0, 0, 0, 20, 13) (0 ∷ 7 ∷ 1 ∷ 0 ∷ 4 ∷ 0 ∷ 0 ∷ 3 ∷ 232 ∷ 0 ∷ 0 ∷ 0 ∷ 0 ∷ [])
    ∷
    -- Spinning above what is certified
    worked (0 ∷ 7 ∷ 1 ∷ 0 ∷ 16 ∷ 0 ∷ 0 ∷ 7 ∷ 209 ∷ 0 ∷ 0 ∷ 0 ∷ 0 ∷ []) (13, 3, 3, 0, 0) ([])
    ∷
    -- Spinning on a self-schedule, up to PMax
    worked (0 ∷ 7 ∷ 1 ∷ 0 ∷ 17 ∷ 0 ∷ 0 ∷ 35 ∷ 40 ∷ 0 ∷ 0 ∷ 3 ∷ 232 ∷ 0 ∷ 0 ∷ 0 ∷ 0 ∷ []) (0, 0, 0, 18, 38) (0 ∷ 7 ∷ 1 ∷ 0 ∷ 23 ∷ 0 ∷ 0 ∷ 35 ∷ 40 ∷ 0 ∷ 0 ∷ 35 ∷ 40 ∷ 1 ∷ 0 ∷ 0 ∷ 39 ∷ 16 ∷ 0 ∷ 1 ∷ 212 ∷ 192 ∷ 0 ∷ 0 ∷ 3 ∷ 232 ∷ 0 ∷ 0 ∷ 0 ∷ 0 ∷ 0 ∷ 0 ∷ 3 ∷ 232 ∷ 0 ∷ 0 ∷ 0 ∷ 0 ∷ [])
    ∷
    -- Spinning on a self-schedule, above PMax
    worked (0 ∷ 7 ∷ 1 ∷ 0 ∷ 17 ∷ 0 ∷ 0 ∷ 35 ∷ 41 ∷ 0 ∷ 0 ∷ 3 ∷ 232 ∷ 0 ∷ 0 ∷ 0 ∷ 0 ∷ []) (16, 3, 0, 0, 0) ([])
    ∷
    -- Spinning on a self-schedule above the regulation limit
    worked (0 ∷ 7 ∷ 1 ∷ 0 ∷ 17 ∷ 0 ∷ 0 ∷ 35 ∷ 41 ∷ 0 ∷ 0 ∷ 3 ∷ 231 ∷ 0 ∷ 0 ∷ 0 ∷ 0 ∷ []) (0, 0, 0, 2, 30) (0 ∷ 7 ∷ 1 ∷ 0 ∷ 19 ∷ 0 ∷ 0 ∷ 35 ∷ 41 ∷ 0 ∷ 0 ∷ 35 ∷ 41 ∷ 1 ∷ 0 ∷ 0 ∷ 39 ∷ 16 ∷ 0 ∷ 1 ∷ 212 ∷ 192 ∷ 0 ∷ 0 ∷ 3 ∷ 231 ∷ 0 ∷ 0 ∷ 0 ∷ 0 ∷ [])
    ∷ []

-- coordinator 3 files each of them
abbrev pub WorkedOut : Type 0
WorkedOut = map (λ c. judged 3 worked_meaning c.filed memory) cases ≡ map (λ c. (c.verdict, c.row ++ drop (length c.row) memory)) cases
