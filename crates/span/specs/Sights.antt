-- What readings come to: a tag, a number, a priority, and whether a span is sampled by itself. Each edition says at which map it reads.
use Rattle.std.specs.Prelude.{Bool, cond, ◌||◌, is_some, Some, None, Option, Float}
use Rattle.std.specs.Float.Ieee.{eq, lt}
use Rattle.std.specs.Option.{option_and_then, option_map}
use Rattle.numbers.specs.Known.{zero, eight}
use Rattle.span.specs.declared.key.Key.TheVariants.{SpanSamplingMechanism, AnalyticsRate, SamplingPriority}
use Rattle.span.specs.declared.tag.Priority.{Priority}
use Rattle.span.specs.declared.tag.Priority.TheVariants.{Positive, NotPositive}
use Rattle.span.specs.declared.tag.Tag.{Tag}
use Rattle.span.specs.declared.tag.Tag.TheVariants as shows
use Rattle.span.specs.declared.value.Value.{Value}
use Rattle.span.specs.declared.value.Value.TheVariants as of
use Rattle.span.specs.Keys.{key_bytes}
use Rattle.span.specs.Model.{Bytes}
use Rattle.span.specs.Questions.{number_passes}
use Rattle.span.specs.Values.{number_of}

-- a text shows as a tag, and no other value does
abbrev pub tag_read : Option Value → Option Tag
tag_read None = None
tag_read (Some (of.Text t)) = Some (shows.Text t)
tag_read (Some (of.Float bits)) = None
tag_read (Some (of.Int n)) = None
tag_read (Some (of.Bool b)) = None
tag_read (Some (of.Bytes n)) = None
tag_read (Some (of.KeyValue n)) = None
tag_read (Some (of.List n)) = None

abbrev pub number_read : Option Value → Option Float
number_read reading = option_and_then number_of reading

-- a priority is positive above 0, and a NaN is not
abbrev pub weighed : Option Float → Option Priority
weighed number = option_map (λ x. cond (lt zero x) Positive NotPositive) number

-- 8.0 among the numbers, or a rate with any value
abbrev pub sampled_by : Option Float → Bool → Bool
sampled_by mechanism rated = number_passes (λ x. eq x eight) mechanism || rated

-- the same, of what a map reads
abbrev pub sampled_in : (Bytes → Option Value) → Bool
sampled_in read = sampled_by (number_read (read (key_bytes SpanSamplingMechanism))) (is_some (read (key_bytes AnalyticsRate)))

-- the priority that a map reads
abbrev pub priority_in : (Bytes → Option Value) → Option Priority
priority_in read = weighed (number_read (read (key_bytes SamplingPriority)))
