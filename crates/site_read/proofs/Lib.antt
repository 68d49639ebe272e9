mod Many
mod Marks
pub mod Sound
pub mod Decoded
pub mod Encoded
pub mod Headers
pub mod Whole
pub mod Files
mod Plans
mod Runs
mod Stops
mod SitePlan
mod SiteRun
mod SiteFields
mod SiteFillings
mod FileBytes
mod Reports
pub mod SiteFaults
