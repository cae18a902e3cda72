-- The number that documents 01 and 02 give every refusal, and what an operation with a number for its result returns.
use Rattle.std.specs.Prelude.{ℕ, Result, Ok, Err}
use Rattle.plan.specs.declared.Refusal.{Refusal}
use Rattle.plan.specs.declared.Refusal.TheVariants as R
use Rattle.plan.specs.Check.{Outcome, refused, result}

-- Check: '1 under 8 bytes; 2 a header field outside its range; 3 n below (k+3)f+1; 4 byte length other than the header implies; 5 a placement; 6 an
-- operation; 7 a forgery; 8 a delay or final bit'
-- 'Ten': '1 is a form other than one or two (when packing too), or a plan shorter than its form's header, 9 and 12 count the form's answer bytes'
-- Play: '9 under 5 bytes for each read; 10 workspace under 60,000 bytes'
-- Look: '11 box not below n, or tick not below H'
-- Judge: '12 length other than 5 times the reads; 13 an answer whose begin, screen or zero bit isn't that of its read'
-- Document 02, 'One': '14: the buffer is shorter than the plan'
-- 'Two': '15: the lent page is too short'
-- 'Nine': '16: a tick isn't below H, or a second stop lies before the first. 17: state buffer not 16,384 bytes. 18: a field outside its range, or a
-- box's pairs not strictly falling by number, then cue'
-- 'Ten': '19: on the way back, a cue above 65,535. 20: lent buffer shorter than the carried plan'
-- 'Twelve': '21: a rights field .. 22: a read without the right'
-- 'Thirteen': '23: the lent text is under 256 bytes for each read'
abbrev pub refusal_number : Refusal → ℕ
refusal_number R.TooShort = 1
refusal_number R.HeaderRange = 2
refusal_number R.TooFewServers = 3
refusal_number R.Length = 4
refusal_number R.Placement = 5
refusal_number R.Operation = 6
refusal_number R.Forgery = 7
refusal_number R.Delay = 8
refusal_number R.AnswersShort = 9
refusal_number R.WorkspaceShort = 10
refusal_number R.OutOfRange = 11
refusal_number R.WrongLength = 12
refusal_number R.WrongRead = 13
refusal_number R.BufferShort = 14
refusal_number R.PageShort = 15
refusal_number R.StopRange = 16
refusal_number R.StateLength = 17
refusal_number R.StateRange = 18
refusal_number R.ValueTooWide = 19
refusal_number R.CarriedShort = 20
refusal_number R.Rights = 21
refusal_number R.NoRight = 22
refusal_number R.TextShort = 23

-- Check and Play: 'it returns the number of reads'; document 02, 'One': 'returns the number of bytes written'; or the refusal's number
abbrev pub numbered : Result ℕ Refusal → Outcome ℕ
numbered (Ok m) = result m
numbered (Err r) = refused (refusal_number r)
