use Rattle.std.proofs.Common.{◌≡◌, ◌<◌, ◌^◌, drop}
use Rattle.std.specs.List.{list_all}
use Rattle.log_spelling.specs.Numbers.{digits_value, is_digit}
use Rattle.log_spelling.proofs.number.digits_value.Given as goal

abbrev pub invariant-loop-d : goal.invariant-loop-d
invariant-loop-d l = record {
  value : digits_value l.n (drop l.d-index l.digits) ≡ digits_value 0 l.digits;
  digits : list_all is_digit (drop l.d-index l.digits) ≡ list_all is_digit l.digits;
  small : l.n < 10 ^ l.d-index;
}
