-- Point 3 is not empty: two accepted plans, one for each k, with a takeover in each period, forged votes and forged replies.
-- What the plans hold and what their reads answer is computed from the bytes; the rest is the theorem.
use mathlib.Core.Path.{◌≡◌, refl, ap}
use mathlib.Core.Bool.{Bool, true}
use mathlib.Core.List.{List, ◌++◌}
use Prim.Native.Nat.{ℕ, ◌≤◌}
use lib.Dec.{ltb, lit≤}
use lib.ListN.{length, take}
use Rattle.register.specs.{Lists.all_up_to, Lists.filter, Plan.Plan, Plan.Forgery, Plan.stamped, Plan.kk, Reading.count_of}
use Rattle.plan.specs.Header.{header_of, moves}
use Rattle.plan.specs.Packed.{plan_of}
use Rattle.plan.specs.Check.{Outcome, result, check_of}
use Rattle.answers.specs.Answers.{answers_of}
use Rattle.results.specs.{Play.play_of, Judge.read_of, Judge.judge_of, PointThree.PointThree}
use Rattle.cases.proofs.Opened.{opened}
use Rattle.results.proofs.{Played.play_plays, PointThree.point_three}
use Rattle.carrying.specs.Carrying.{carried_plan}
use Rattle.carrying.proofs.{Values.wider_fits, Back.carried_accepted}
use Rattle.cases.specs.{Hex.hex, Starred.one_width, Starred.two_width}

-- n = 5, f = 1, δ = 1, Δ = 2, H = 8: value 9 written at 0, 8 at 4, reads at 2 and 5
unfoldable pub four_periods : List ℕ
four_periods =
    hex 60 0x2a211080007040168000400020001000000002411000008000202900000001029ac80004029ac80420029ac80424029ac80426029ac80626029ac808
    ++ (hex 60 0x40029ac80844029ac80a46029ac80c64029ac80c66029ac8011110110111011101101111010111110011111100111110001111011011101110110111
    ++ (hex 60 0x101011111001111110011111000111101101110111011011110101111100111111001111100011110110111011101101111010111110011111100111
    ++ (hex 60 0x110001111011011101110110111101011111001111110011111000111101101110111011011110101111100111111001111100011110110111011101
    ++ (hex 40 0x10111101011111001111110011111000111101101110111011011110101111100111111001111100))))

-- n = 6, f = 1, δ = 1, Δ = 1, H = 6: value 9 written at 0, a read at 2
unfoldable pub six_periods : List ℕ
six_periods =
    hex 60 0x322090600070201080004000200010000800040000000241100000005029ac80225029ac80445029ac80447029ac80665029ac80667029ac80885029
    ++ (hex 60 0xac80aa0029ac801111101101111011101110111101101111101011111100111111100111111000111110110111101110111011110110111110101111
    ++ (hex 60 0x110011111110011111100011111011011110111011101111011011111010111111001111111001111110001111101101111011101110111101101111
    ++ (hex 60 0x101011111100111111100111111000111110110111101110111011110110111110101111110011111110011111100011111011011110111011101111
    ++ (hex 19 0x01101111101011111100111111100111111000))))

pub record Facts : Type 0 where
  pub outcome : Outcome ℕ
  pub k : ℕ
  -- in each period i, server i is faulty
  pub takeovers : Bool
  pub votes : ℕ
  pub replies : ℕ
  -- how many servers name the forged pair in the first read
  pub forged_count : ℕ
  pub answers : List ℕ

unfoldable pub facts_of : List ℕ → Facts
facts_of s =
    let P : Plan = plan_of one_width s in
    record {
      outcome = check_of one_width s;
      k = kk P;
      takeovers = all_up_to (moves (header_of one_width s)) (λ i. P.placed i i);
      votes = length (filter (λ (g : Forgery). ltb g.to P.n) P.forged);
      replies = length (filter (λ (g : Forgery). ltb P.n g.to) P.forged);
      forged_count = count_of P (read_of P 0) (stamped one_width 666 200);
      answers = answers_of one_width s;
    }

pub four_facts : facts_of four_periods ≡ record {
  outcome = result 2;
  k = 1;
  takeovers = true;
  votes = 7;
  replies = 4;
  forged_count = 1;
  answers = hex 10 0x04400240480a40020088;
}
unfolding opened facts_of four_periods
four_facts = refl

pub six_facts : facts_of six_periods ≡ record {
  outcome = result 1;
  k = 2;
  takeovers = true;
  votes = 6;
  replies = 2;
  forged_count = 2;
  answers = hex 5 0x044002404a;
}
unfolding opened facts_of six_periods
six_facts = refl

-- The theorem for each, and Judge's yes to what Play writes of it.
pub four_point : PointThree one_width four_periods
unfolding facts_of
four_point = point_three one_width four_periods 2 (ap (λ (x : Facts). x.outcome) four_facts)

pub six_point : PointThree one_width six_periods
unfolding facts_of
six_point = point_three one_width six_periods 1 (ap (λ (x : Facts). x.outcome) six_facts)

-- and for the first in form two, where its pairs have other numbers: what holds of every plan that is carried
pub four_two : PointThree two_width (carried_plan one_width two_width four_periods)
unfolding facts_of
four_two =
    let accepted = ap (λ (x : Facts). x.outcome) four_facts in
    let fit = wider_fits one_width two_width four_periods (lit≤ tt) in
    point_three two_width (carried_plan one_width two_width four_periods) 2 (carried_accepted one_width two_width four_periods fit 2 accepted)

pub four_judged : (answers workspace : List ℕ) → 10 ≤ length answers → 60000 ≤ length workspace
    → judge_of one_width four_periods (take 10 (play_of one_width four_periods answers workspace).answers) ≡ result true
unfolding facts_of
four_judged answers workspace a b =
    four_point.judged answers workspace 2 (play_plays one_width four_periods 2 (ap (λ (x : Facts). x.outcome) four_facts) answers workspace a b)

pub six_judged : (answers workspace : List ℕ) → 5 ≤ length answers → 60000 ≤ length workspace
    → judge_of one_width six_periods (take 5 (play_of one_width six_periods answers workspace).answers) ≡ result true
unfolding facts_of
six_judged answers workspace a b =
    six_point.judged answers workspace 1 (play_plays one_width six_periods 1 (ap (λ (x : Facts). x.outcome) six_facts) answers workspace a b)
