use Rattle.std.specs.Prelude.{Some, None, Option}

-- What two values make where both are there.
abbrev pub paired : {X Y Z : Type 0} → (X → Y → Z) → Option X → Option Y → Option Z
paired f None y = None
paired f (Some x) None = None
paired f (Some x) (Some y) = Some (f x y)
