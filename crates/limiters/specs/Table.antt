-- The table of limiters: finding the one that serves, and a free one.
use Rattle.std.specs.Prelude.{ℕ, ◌+◌, ◌-◌, ◌<◌, Bool, true, false, cond, List, [], ◌∷◌, take, drop, Some, None, Option, ◌==◌}
use Rattle.limiters.specs.declared.limiter.Identity.{Identity}
use Rattle.limiters.specs.declared.limiter.Limiter.{Limiter}
use Rattle.limiters.specs.declared.limiter.Limiter.TheVariants.{Free, InService}

-- What a limiter serves; none where it is free.
abbrev pub served : Limiter → Option Identity
served Free = None
served (InService r) = Some r.serves

-- A limiter fits: a free one where none is looked for, else one that serves that flow.
abbrev pub fits : Option Identity → Limiter → Bool
fits None Free = true
fits None (InService r) = false
fits (Some who) Free = false
fits (Some who) (InService r) = r.serves.flow == who.flow

-- The place of the first limiter that fits, counted from i.
unfoldable pub first_in : Option Identity → ℕ → List Limiter → Option ℕ
first_in s i [] = None
first_in s i (l ∷ ls) = cond (fits s l) (Some i) (first_in s (i + 1) ls)

-- The limiters from one place up to another.
abbrev pub part : ℕ → ℕ → List Limiter → List Limiter
part from to ls = take (to - from) (drop from ls)

-- The slot that serves.
abbrev pub serving : Identity → List Limiter → Option ℕ
serving who ls = first_in (Some who) 0 (part 0 64 ls)

-- The first answer, or else the second.
abbrev pub or_else : Option ℕ → Option ℕ → Option ℕ
or_else None o = o
or_else (Some i) o = Some i

-- The first free slot at or after the cursor, going round.
abbrev pub first_free : ℕ → List Limiter → Option ℕ
first_free cursor ls = or_else (first_in None cursor (part cursor 64 ls)) (first_in None 0 (part 0 cursor ls))

-- A slot that was found is one of the 64.
abbrev pub Below : Option ℕ → Type 0
Below None = Unit {0}
Below (Some i) = i < 64
