pub mod Held
pub mod Loaded
pub mod SiteTraffic
pub mod Group
pub mod SiteLaws
