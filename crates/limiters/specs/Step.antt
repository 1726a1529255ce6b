-- What each event does to a limiter.
use Rattle.std.specs.Prelude.{ℕ, ◌+◌, ◌-◌, ◌*◌, ◌/◌, min, max, cond, ◌==◌, nat_lt}
use Rattle.settings.specs.declared.figures.Figures.{Figures}
use Rattle.rates.specs.declared.rates.Rates.{Rates}
use Rattle.limiters.specs.declared.event.Event.{Event}
use Rattle.limiters.specs.declared.event.Event.TheVariants.{Taken, Notice, Frame, Microsecond}
use Rattle.limiters.specs.declared.limiter.Identity.{Identity}
use Rattle.limiters.specs.declared.limiter.Limiter.{Limiter}
use Rattle.limiters.specs.declared.limiter.Limiter.TheVariants.{Free, InService}
use Rattle.limiters.specs.declared.limiter.Row.{Row}

-- Full credit, and what a frame is charged, in thousandths of a bit.
abbrev pub full_credit : ℕ
full_credit = 16000000

abbrev pub charge : ℕ → ℕ
charge length = 8000 * length

-- A stage rises by one, and stops at 255.
abbrev pub risen : ℕ → ℕ
risen stage = min (stage + 1) 255

-- A limiter that is taken: both rates are the line rate, the credit is full, the timer starts.
abbrev pub fresh : Figures → Identity → Row
fresh f who = record {
  serves = who;
  rates = record { current = f.line_rate; target = f.line_rate };
  stages = record { byte = 0; timer = 0 };
  byte_count = 0;
  time_left = f.period;
  credit = full_credit;
  held = 0;
}

-- The greater of the two; a held 63 becomes 0.
abbrev pub held_after : ℕ → ℕ → ℕ
held_after value held = cond (max held value == 63) 0 (max held value)

-- A notice: past the first cycle the target becomes the current rate and the byte count 0; both stages become 0, the current rate its cut, and the timer starts.
abbrev pub noticed : Figures → ℕ → ℕ → Row → Row
noticed f value cut r = record {
  serves = r.serves;
  rates = record { current = cut; target = cond (r.stages.byte == 0) r.rates.target r.rates.current };
  stages = record { byte = 0; timer = 0 };
  byte_count = cond (r.stages.byte == 0) r.byte_count 0;
  time_left = f.period;
  credit = r.credit;
  held = held_after value r.held;
}

-- The byte count runs out past the byte limit, or past half of it from stage 5 on.
abbrev pub byte_end : Figures → ℕ → ℕ
byte_end f stage = cond (nat_lt stage 5) f.byte_limit (f.byte_limit / 2)

-- An accepted frame: credit falls by its charge and the byte count grows by its length; where that runs out, the byte stage rises, the count becomes 0 and both rates are raised.
abbrev pub charged : Figures → ℕ → Rates → Row → Row
charged f length raised r = cond (nat_lt (byte_end f r.stages.byte) (r.byte_count + length))
    (record {
      serves = r.serves;
      rates = raised;
      stages = record { byte = risen r.stages.byte; timer = r.stages.timer };
      byte_count = 0;
      time_left = r.time_left;
      credit = r.credit - charge length;
      held = r.held;
    })
    (record {
      serves = r.serves;
      rates = r.rates;
      stages = r.stages;
      byte_count = r.byte_count + length;
      time_left = r.time_left;
      credit = r.credit - charge length;
      held = r.held;
    })

-- The timer runs for a period while its stage is below 5, and for half of it from 5 on.
abbrev pub run : Figures → ℕ → ℕ
run f stage = cond (nat_lt stage 5) f.period (f.period / 2)

-- The credit after some microseconds at a rate.
abbrev pub earned : Row → ℕ → ℕ
earned r micros = min (r.credit + micros * r.rates.current) full_credit

-- The timer's expiry: its stage rises, both rates are raised, and it runs again.
abbrev pub expired : Figures → Rates → ℕ → Row → Row
expired f raised credit r = record {
  serves = r.serves;
  rates = raised;
  stages = record { byte = r.stages.byte; timer = risen r.stages.timer };
  byte_count = r.byte_count;
  time_left = run f (risen r.stages.timer);
  credit = credit;
  held = r.held;
}

-- Some microseconds without an expiry.
abbrev pub passed : Row → ℕ → Row
passed r micros = record {
  serves = r.serves;
  rates = r.rates;
  stages = r.stages;
  byte_count = r.byte_count;
  time_left = r.time_left - micros;
  credit = earned r micros;
  held = r.held;
}

-- A microsecond: credit grows by the current rate, to at most full, and the time left falls by one. At 0 the timer expires.
abbrev pub ticked : Figures → Rates → Row → Row
ticked f raised r = cond (nat_lt 1 r.time_left) (passed r 1) (expired f raised (earned r 1) r)

-- State and event together. A limiter that is free is only taken; one in service is not taken again; a notice of value 0 does nothing; a frame at the line rate frees it.
abbrev pub stepped : Figures → Event → Limiter → Limiter
stepped f (Taken who) Free = InService (fresh f who)
stepped f (Taken who) (InService r) = InService r
stepped f (Notice v cut) Free = Free
stepped f (Notice v cut) (InService r) = cond (v == 0) (InService r) (InService (noticed f v cut r))
stepped f (Frame length raised) Free = Free
stepped f (Frame length raised) (InService r) = cond (r.rates.current == f.line_rate) Free (InService (charged f length raised r))
stepped f (Microsecond raised) Free = Free
stepped f (Microsecond raised) (InService r) = InService (ticked f raised r)
