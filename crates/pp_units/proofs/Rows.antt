-- Texts and values that people know, computed from the definitions.
use Rattle.std.proofs.Common.{◌≡◌, ℕ, ◌^◌, ◌-◌, List, ℤ, pos, negsuc, Option, Some, None, option_map, Bool, true, false, refl, codes}
use Rattle.std.specs.Fmt.{digits}
use Rattle.pp_units.specs.declared.range.Bound.{Bound}
use Rattle.pp_units.specs.declared.range.Range.{Range}
use Rattle.pp_units.specs.Scales.{scale_of, is_named}
use Rattle.pp_units.specs.Shown.{picked, forced, picked_for_each, is_same_kind}
use Rattle.pp_units.specs.Numbers.{number_text, value_text, percent_text}
use Rattle.pp_units.specs.Ranges.{bound_of, range_of, in_range}
use Rattle.pp_units.specs.Fractions.{fraction_of}

-- a total's own text
own : ℕ → List ℕ → List ℕ
own total unit = value_text (pos total) (picked total unit)

-- a value's text in a unit that is asked for
asked : ℤ → List ℕ → List ℕ → Option (List ℕ)
asked value unit wanted = option_map (value_text value) (forced wanted unit)

kilobytes : own 1536 (codes "bytes") ≡ codes "1.50kB"
unfolding own value_text number_text picked scale_of is_named digits
kilobytes = refl

nanoseconds : own 999 (codes "nanoseconds") ≡ codes "999ns"
unfolding own value_text number_text picked scale_of is_named digits
nanoseconds = refl

petabytes : own 1125899906842624 (codes "bytes") ≡ codes "1PB"
unfolding own value_text number_text picked scale_of is_named digits
petabytes = refl

microseconds : own 1000 (codes "ns") ≡ codes "1us"
unfolding own value_text number_text picked scale_of is_named digits
microseconds = refl

milliseconds : own 1 (codes "Milliseconds") ≡ codes "1ms"
unfolding own value_text number_text picked scale_of is_named digits
milliseconds = refl

seconds : own 1000000000 (codes "NS") ≡ codes "1s"
unfolding own value_text number_text picked scale_of is_named digits
seconds = refl

minutes : own 60 (codes "s") ≡ codes "60s"
unfolding own value_text number_text picked scale_of is_named digits
minutes = refl

hours : own 3600 (codes "sec") ≡ codes "1hrs"
unfolding own value_text number_text picked scale_of is_named digits
hours = refl

just_below_an_hour : own 3599999 (codes "ms") ≡ codes "3600s"
unfolding own value_text number_text picked scale_of is_named digits
just_below_an_hour = refl

nothing : own 0 (codes "hours") ≡ codes "0"
unfolding own value_text number_text picked scale_of is_named digits
nothing = refl

counts : own 7 (codes "samples") ≡ codes "7"
unfolding own value_text number_text picked scale_of is_named digits
counts = refl

no_unit : own 12 (codes "") ≡ codes "12"
unfolding own value_text number_text picked scale_of is_named digits
no_unit = refl

others : own 1500 (codes "widgets") ≡ codes "1500widgets"
unfolding own value_text number_text picked scale_of is_named digits
others = refl

largest_time : own 18446744073709551615 (codes "hrs") ≡ codes "18446744073709551615hrs"
unfolding own value_text number_text picked scale_of is_named digits
largest_time = refl

largest_bytes : own 18446744073709551615 (codes "B") ≡ codes "16384PB"
unfolding own value_text number_text picked scale_of is_named digits
largest_bytes = refl

half_up : asked (pos 1499999) (codes "nanoseconds") (codes "ms") ≡ Some (codes "1.50ms")
unfolding asked value_text number_text forced is_same_kind scale_of is_named digits
half_up = refl

below_a_half : asked (negsuc 4998) (codes "nanoseconds") (codes "ms") ≡ Some (codes "0")
unfolding asked value_text number_text forced is_same_kind scale_of is_named digits
below_a_half = refl

half_down : asked (negsuc 4999) (codes "nanoseconds") (codes "ms") ≡ Some (codes "-0.01ms")
unfolding asked value_text number_text forced is_same_kind scale_of is_named digits
half_down = refl

lowest : asked (negsuc (2 ^ 63 - 1)) (codes "ns") (codes "ns") ≡ Some (codes "-9223372036854775808ns")
unfolding asked value_text number_text forced is_same_kind scale_of is_named digits
lowest = refl

highest : asked (pos (2 ^ 63 - 1)) (codes "bytes") (codes "kb") ≡ Some (codes "9007199254740992kB")
unfolding asked value_text number_text forced is_same_kind scale_of is_named digits
highest = refl

asked_other : asked (pos 3) (codes "widgets") (codes "Widgets") ≡ Some (codes "3Widgets")
unfolding asked value_text number_text forced is_same_kind scale_of is_named digits
asked_other = refl

of_two_others : asked (pos 3) (codes "widgets") (codes "gadgets") ≡ None
unfolding asked value_text number_text forced is_same_kind scale_of is_named digits
of_two_others = refl

of_two_families : asked (pos 3) (codes "ns") (codes "bytes") ≡ None
unfolding asked value_text number_text forced is_same_kind scale_of is_named digits
of_two_families = refl

counts_as_time : asked (pos 3) (codes "count") (codes "ms") ≡ None
unfolding asked value_text number_text forced is_same_kind scale_of is_named digits
counts_as_time = refl

asked_counts : asked (pos 3) (codes "samples") (codes "unit") ≡ Some (codes "3")
unfolding asked value_text number_text forced is_same_kind scale_of is_named digits
asked_counts = refl

lowest_hours : asked (negsuc (2 ^ 63 - 1)) (codes "hrs") (codes "ns") ≡ Some (codes "-33204139332677192908800000000000ns")
unfolding asked value_text number_text forced is_same_kind scale_of is_named digits
lowest_hours = refl

-- a value's text in a unit of its own
alone : ℤ → List ℕ → List ℕ
alone value unit = value_text value (picked_for_each unit)

alone_below : alone (negsuc 1535) (codes "bytes") ≡ codes "-1.50kB"
unfolding alone value_text number_text picked_for_each scale_of is_named digits
alone_below = refl

alone_small : alone (pos 5) (codes "ms") ≡ codes "5ms"
unfolding alone value_text number_text picked_for_each scale_of is_named digits
alone_small = refl

alone_large : alone (pos 7200000) (codes "ms") ≡ codes "2hrs"
unfolding alone value_text number_text picked_for_each scale_of is_named digits
alone_large = refl

alone_nothing : alone (pos 0) (codes "ms") ≡ codes "0"
unfolding alone value_text number_text picked_for_each scale_of is_named digits
alone_nothing = refl

alone_other : alone (negsuc 1) (codes "Widgets") ≡ codes "-2Widgets"
unfolding alone value_text number_text picked_for_each scale_of is_named digits
alone_other = refl

percent_whole : percent_text (pos 60) 60 ≡ codes "100.00%"
unfolding percent_text digits
percent_whole = refl

percent_sixth : percent_text (pos 10) 60 ≡ codes "16.67%"
unfolding percent_text digits
percent_sixth = refl

percent_of_nothing : percent_text (pos 5) 0 ≡ codes "0%"
unfolding percent_text digits
percent_of_nothing = refl

percent_tiny : percent_text (negsuc 0) 1000000 ≡ codes "0.00%"
unfolding percent_text digits
percent_tiny = refl

percent_half_of_a_hundredth : percent_text (negsuc 0) 20000 ≡ codes "-0.01%"
unfolding percent_text digits
percent_half_of_a_hundredth = refl

percent_less_than_half : percent_text (negsuc 0) 20001 ≡ codes "0.00%"
unfolding percent_text digits
percent_less_than_half = refl

percent_negative : percent_text (negsuc 0) 3 ≡ codes "-33.33%"
unfolding percent_text digits
percent_negative = refl

percent_more_than_all : percent_text (pos 7) 2 ≡ codes "350.00%"
unfolding percent_text digits
percent_more_than_all = refl

fraction_of_five : fraction_of (codes "0.005") ≡ Some 5000000
unfolding fraction_of
fraction_of_five = refl

fraction_above_one : fraction_of (codes "1.5") ≡ None
unfolding fraction_of
fraction_above_one = refl

fraction_point : fraction_of (codes ".") ≡ None
unfolding fraction_of
fraction_point = refl

fraction_ten_decimals : fraction_of (codes "0.0000000001") ≡ None
unfolding fraction_of
fraction_ten_decimals = refl

fraction_one : fraction_of (codes "1") ≡ Some 1000000000
unfolding fraction_of
fraction_one = refl

fraction_one_and_zeros : fraction_of (codes "1.000000000") ≡ Some 1000000000
unfolding fraction_of
fraction_one_and_zeros = refl

fraction_no_whole : fraction_of (codes ".25") ≡ Some 250000000
unfolding fraction_of
fraction_no_whole = refl

fraction_no_decimals : fraction_of (codes "1.") ≡ None
unfolding fraction_of
fraction_no_decimals = refl

fraction_empty : fraction_of (codes "") ≡ None
unfolding fraction_of
fraction_empty = refl

fraction_zeros : fraction_of (codes "000000001") ≡ Some 1000000000
unfolding fraction_of
fraction_zeros = refl

fraction_ten_zeros : fraction_of (codes "0000000001") ≡ None
unfolding fraction_of
fraction_ten_zeros = refl

fraction_smallest : fraction_of (codes "0.000000001") ≡ Some 1
unfolding fraction_of
fraction_smallest = refl

fraction_two_points : fraction_of (codes "0.0.1") ≡ None
unfolding fraction_of
fraction_two_points = refl

fraction_sign : fraction_of (codes "-0") ≡ None
unfolding fraction_of
fraction_sign = refl

-- a bound
bound : ℤ → List ℕ → Bound
bound number unit = record { number = number; unit = unit }

-- a range from one bound to another
from_to : Option Bound → Option Bound → Option Range
from_to low high = Some (record { low = low; high = high })

range_alone : range_of (codes "512b") ≡ from_to (Some (bound (pos 512) (codes "b"))) (Some (bound (pos 512) (codes "b")))
unfolding from_to bound range_of bound_of
range_alone = refl

range_from : range_of (codes "-3:") ≡ from_to (Some (bound (negsuc 2) (codes ""))) None
unfolding from_to bound range_of bound_of
range_from = refl

range_up_to : range_of (codes ":+4MB") ≡ from_to None (Some (bound (pos 4) (codes "MB")))
unfolding from_to bound range_of bound_of
range_up_to = refl

range_both : range_of (codes "512b:2kb") ≡ from_to (Some (bound (pos 512) (codes "b"))) (Some (bound (pos 2) (codes "kb")))
unfolding from_to bound range_of bound_of
range_both = refl

range_lowest : range_of (codes "-9223372036854775808:") ≡ from_to (Some (bound (negsuc (2 ^ 63 - 1)) (codes ""))) None
unfolding from_to bound range_of bound_of
range_lowest = refl

range_too_low : range_of (codes "-9223372036854775809:") ≡ None
unfolding from_to bound range_of bound_of
range_too_low = refl

range_too_high : range_of (codes "9223372036854775808") ≡ None
unfolding from_to bound range_of bound_of
range_too_high = refl

range_highest : range_of (codes "9223372036854775807:") ≡ from_to (Some (bound (pos (2 ^ 63 - 1)) (codes ""))) None
unfolding from_to bound range_of bound_of
range_highest = refl

range_colon : range_of (codes ":") ≡ None
unfolding from_to bound range_of bound_of
range_colon = refl

range_empty : range_of (codes "") ≡ None
unfolding from_to bound range_of bound_of
range_empty = refl

range_three : range_of (codes "1:2:3") ≡ None
unfolding from_to bound range_of bound_of
range_three = refl

range_letters : range_of (codes "ms") ≡ None
unfolding from_to bound range_of bound_of
range_letters = refl

range_sign : range_of (codes "-") ≡ None
unfolding from_to bound range_of bound_of
range_sign = refl

range_two_signs : range_of (codes "--1") ≡ None
unfolding from_to bound range_of bound_of
range_two_signs = refl

range_digit_last : range_of (codes "1a2") ≡ None
unfolding from_to bound range_of bound_of
range_digit_last = refl

range_space : range_of (codes "1 ") ≡ None
unfolding from_to bound range_of bound_of
range_space = refl

range_leading_zeros : range_of (codes "000000000000000000000001") ≡ from_to (Some (bound (pos 1) (codes ""))) (Some (bound (pos 1) (codes "")))
unfolding from_to bound range_of bound_of
range_leading_zeros = refl

range_minus_zero : range_of (codes "-0:") ≡ from_to (Some (bound (pos 0) (codes ""))) None
unfolding from_to bound range_of bound_of
range_minus_zero = refl

-- whether the number of the unit lies in the range that the text spells
lies : List ℕ → ℤ → List ℕ → Option Bool
lies text num unit = option_map (λ range. in_range range num unit) (range_of text)

lies_inside : lies (codes "512b:2kb") (pos 1024) (codes "bytes") ≡ Some true
unfolding lies range_of bound_of in_range is_same_kind scale_of is_named
lies_inside = refl

lies_at_low : lies (codes "512b:2kb") (pos 512) (codes "bytes") ≡ Some true
unfolding lies range_of bound_of in_range is_same_kind scale_of is_named
lies_at_low = refl

lies_below_low : lies (codes "512b:2kb") (pos 511) (codes "bytes") ≡ Some false
unfolding lies range_of bound_of in_range is_same_kind scale_of is_named
lies_below_low = refl

lies_at_high : lies (codes "512b:2kb") (pos 2) (codes "kilobytes") ≡ Some true
unfolding lies range_of bound_of in_range is_same_kind scale_of is_named
lies_at_high = refl

lies_above_high : lies (codes "512b:2kb") (pos 2049) (codes "b") ≡ Some false
unfolding lies range_of bound_of in_range is_same_kind scale_of is_named
lies_above_high = refl

lies_no_letters : lies (codes "512:") (pos 1) (codes "kb") ≡ Some false
unfolding lies range_of bound_of in_range is_same_kind scale_of is_named
lies_no_letters = refl

lies_no_letters_equal : lies (codes "1:1") (pos 1) (codes "kb") ≡ Some true
unfolding lies range_of bound_of in_range is_same_kind scale_of is_named
lies_no_letters_equal = refl

lies_other_family : lies (codes "1ms:") (pos 5000000) (codes "bytes") ≡ Some false
unfolding lies range_of bound_of in_range is_same_kind scale_of is_named
lies_other_family = refl

lies_other_other : lies (codes "1widgets:") (pos 5) (codes "gadgets") ≡ Some false
unfolding lies range_of bound_of in_range is_same_kind scale_of is_named
lies_other_other = refl

lies_same_other : lies (codes "1widgets:") (pos 5) (codes "WIDGETS") ≡ Some true
unfolding lies range_of bound_of in_range is_same_kind scale_of is_named
lies_same_other = refl

lies_at_the_hour : lies (codes "1hour:1hour") (pos 3600) (codes "s") ≡ Some true
unfolding lies range_of bound_of in_range is_same_kind scale_of is_named
lies_at_the_hour = refl

lies_negative : lies (codes ":-1s") (negsuc 999) (codes "ms") ≡ Some true
unfolding lies range_of bound_of in_range is_same_kind scale_of is_named
lies_negative = refl

lies_far : lies (codes ":1pb") (pos (2 ^ 63 - 1)) (codes "pb") ≡ Some false
unfolding lies range_of bound_of in_range is_same_kind scale_of is_named
lies_far = refl
