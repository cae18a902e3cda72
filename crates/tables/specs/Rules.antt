-- What the header gives: the rules of the cluster, and where the delays of the links stand.
use Rattle.std.specs.Prelude.{◌≡◌, ℕ, ◌+◌, ◌*◌, eqb}
use Rattle.plan.specs.Header.{Header, forgery_at, parties, k_in}
use Rattle.tables.specs.declared.Rules.{Rules}
use Rattle.tables.specs.declared.Links.{Links}

pub record RulesOf (h : Header) (r : Rules) : Type 0 where
  pub n : r.n ≡ h.n
  pub delta : r.delta ≡ h.delta
  pub two : r.two ≡ eqb (k_in h) 2
  pub echo : r.echo ≡ 2 * h.f + 1
  pub reply : r.reply ≡ (k_in h + 1) * h.f + 1

pub record LinksOf (w : ℕ) (h : Header) (r : Links) : Type 0 where
  pub at : r.at ≡ forgery_at w h h.forgeries
  pub n : r.n ≡ h.n
  pub parties : r.parties ≡ parties h
