-- The pages that wait never pass 2,048.
use Rattle.std.proofs.Common.{ℕ, ◌≤◌, List, length, arith}
use Rattle.std.proofs.ByRecursion.{All-weaker, sum_by_le}
use Rattle.std.specs.List.{AllByRecursion}
use Rattle.tally.specs.Sound.{FrameKept}
use Rattle.tally.specs.Tally.{pages, pages_waiting}
use Rattle.tally.specs.declared.frame.Frame.{Frame}

pages_eight : (n : ℕ) → n ≤ 2000 → pages n ≤ 8
pages_eight n short = omega arith

pub pages_low : (fs : List Frame) → AllByRecursion FrameKept fs → length fs ≤ 256 → pages_waiting fs ≤ 2048
pages_low fs kept few =
    let size : Frame → ℕ = λ f. pages f.length in
    omega (arith, sum_by_le size 8 fs (All-weaker FrameKept (λ f. size f ≤ 8) (λ f k. pages_eight f.length k.not_long) fs kept))
