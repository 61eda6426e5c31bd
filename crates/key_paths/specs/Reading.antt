-- How a text is read as a path: what one byte more makes of how far it has been read.
use Rattle.std.specs.Prelude.{ℕ, ◌+◌, ◌==◌, ◌&&◌, not, nat_le, if◌then◌else◌}
use Rattle.std.specs.Prelude.{Result, Ok, Err}
use Rattle.key_paths.specs.Paths.{is_dot, begins_segment, is_in_segment}
use Rattle.key_paths.specs.declared.refusal.PathKind.{PathKind}
use Rattle.key_paths.specs.declared.refusal.PathKind.TheVariants.{NoDot, EmptySegment, SegmentTooLong, TooDeep, BadByte}
use Rattle.key_paths.specs.declared.reading.Reached.{Reached}

abbrev pub reached : ℕ → ℕ → Reached
reached segments width = record { segments = segments; width = width }

-- after a dot
abbrev pub dot_step : Reached → Result Reached PathKind
dot_step r =
    if not (r.segments == 0) && (r.width == 0) then Err EmptySegment
    else if nat_le 8 r.segments then Err TooDeep
    else Ok (reached (r.segments + 1) 0)

-- after a segment's first byte
abbrev pub first_step : Reached → ℕ → Result Reached PathKind
first_step r byte = if begins_segment byte then Ok (reached r.segments 1) else Err BadByte

-- after another byte of a segment
abbrev pub inner_step : Reached → ℕ → Result Reached PathKind
inner_step r byte =
    if not (is_in_segment byte) then Err BadByte
    else if nat_le 64 r.width then Err SegmentTooLong
    else Ok (reached r.segments (r.width + 1))

-- after a byte
abbrev pub step_of : Reached → ℕ → Result Reached PathKind
step_of r byte =
    if is_dot byte then dot_step r
    else if r.segments == 0 then Err NoDot
    else if r.width == 0 then first_step r byte
    else inner_step r byte

-- at the text's end
abbrev pub end_of : Reached → Result (Unit {0}) PathKind
end_of r =
    if r.segments == 0 then Err NoDot
    else if not (r.segments == 1) && (r.width == 0) then Err EmptySegment
    else Ok tt
